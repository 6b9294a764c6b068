use Rattle.connections.specs.declared.ends.Nonblocking.{Nonblocking}
use Rattle.connections.specs.declared.socket.Socket.{Socket}
use Rattle.grid_serving.specs.Loops.{LoopState}
use Rattle.grid_serving.proofs.Looping.{come_on}
use Rattle.grid_serving.proofs.serving.Serving.put.Goals as goal

pub returns-clause-ok : goal.returns-clause-ok
returns-clause-ok g c =
    let inner : LoopState (Nonblocking Socket) g.row.S.Denot = record {
      listener = c.self.inside.listener;
      server = c.self.inside.server;
      own = c.self.inside.desk.own;
      clients = c.self.inside.clients;
      clock = c.self.inside.clock;
      comes = c.self.inside.comes;
      is_owed = c.self.inside.is_owed;
      news = c.self.inside.news.items;
    } in
    come_on c.args.node c.args.now inner c.args.self.now (record { stream = c.register.new.self }) c.in_ok-client.client c.put.new.self c.self.view_is c.requires.within c.requires.free c.in_ok-client.ensures c.put.ensures
