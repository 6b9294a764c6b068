use Rattle.std.proofs.Common.{rules}
use Rattle.connections.specs.declared.ends.Nonblocking.{Nonblocking}
use Rattle.connections.specs.declared.socket.Socket.{Socket}
use Rattle.grid_serving.specs.Loops.{LoopState}
use Rattle.grid_serving.proofs.Looping.{turn_done, turn_fails}
use Rattle.grid_serving.proofs.serving.Serving.turn.Goals as goal

pub returns-in_err-serves-clause-err : goal.returns-in_err-serves-clause-err
returns-in_err-serves-clause-err g c =
    let fails = turn_fails _ g.S.Store.calls c.as_secs-now.result c.args.self.now c.rest.new.self c.take_clients-takes.new.self c.serve_ready.new.self c.rest.ensures c.take_clients-takes.ensures c.in_err-serves.ensures.err in
    search (rules, fails)

pub returns-clause-ok : goal.returns-clause-ok
returns-clause-ok g c =
    let inner : LoopState (Nonblocking Socket) g.row.S.Denot = record {
      listener = c.self-2.inside.listener;
      server = c.self-2.inside.server;
      own = c.self-2.inside.desk.own;
      clients = c.self-2.inside.clients;
      clock = c.self-2.inside.clock;
      comes = c.self-2.inside.comes;
      is_owed = c.self-2.inside.is_owed;
      news = c.self-2.inside.news.items;
    } in
    turn_done _ g.S.Store.calls c.as_secs-now.result c.args.self.now c.rest.new.self c.take_clients-takes.new.self c.serve_ready.new.self inner c.pass.new.self _ c.rest.ensures c.take_clients-takes.ensures c.in_ok-serves.ensures.ok c.self-2.view_is c.pass.ensures
