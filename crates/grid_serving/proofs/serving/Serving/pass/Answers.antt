use Rattle.std.proofs.Common.{refl}
use Rattle.connections.specs.declared.ends.Nonblocking.{Nonblocking}
use Rattle.connections.specs.declared.socket.Socket.{Socket}
use Rattle.grid_serving.specs.Loops.{LoopState}
use Rattle.grid_serving.proofs.Looping.{aged, other_second}
use Rattle.grid_serving.proofs.serving.Serving.pass.Goals as goal

pub returns : goal.returns
returns g c =
    let inner : LoopState (Nonblocking Socket) g.row.S.Denot = record {
      listener = c.self.inside.listener;
      server = c.self.inside.server;
      own = c.self.inside.desk.own;
      clients = c.self.inside.clients;
      clock = c.self.inside.clock;
      comes = c.self.inside.comes;
      is_owed = c.self.inside.is_owed;
      news = c.self.inside.news.items;
    } in
    let mid : LoopState (Nonblocking Socket) g.row.S.Denot = record inner { server = c.end_late.new.server; clients = c.end_late.new.self; clock = c.args.now } in
    other_second g.S.Store.calls c.args.now inner c.args.self.now c.note_gone.new.self c.self.view_is c.if-now-self.false
    (aged g.S.Store.calls c.args.now inner c.args.self.now mid c.note_gone.new.self c.tick.new.self c.let_go.new.self c.self.view_is c.tick.ensures c.let_go.ensures c.end_late.ensures refl c.note_gone.ensures.news c.note_gone.ensures.others)
