use Rattle.std.proofs.Common.{◌∙◌, ◌+◌, ap, arith, refl, sym}
use Rattle.connections.specs.declared.ends.Nonblocking.{Nonblocking}
use Rattle.connections.specs.declared.socket.Socket.{Socket}
use Rattle.grid_serving.specs.Loops.{LoopState}
use Rattle.grid_serving.proofs.Looping.{none_taken, none_waits, one_more_taken, some_taken}
use Rattle.grid_serving.proofs.serving.Serving.take_clients.Goals as goal

pub returns-then-not-self : goal.returns-then-not-self
returns-then-not-self g c =
    none_taken g.S.Store.calls c.args.now c.args.self.now (sym (ap (λ (s : LoopState (Nonblocking Socket) g.row.S.Denot). s.comes) c.self.view_is) ∙ c.if-not-self.true)

pub loop-init : goal.loop-init
loop-init g c = refl

pub loop-preserved : goal.loop-preserved
loop-preserved g c =
    one_more_taken g.S.Store.calls c.args.now c.loop.counter (c.loop.counter + 1) c.args.self.now c.loop.self c.take_next.new.self c.take_next.result (omega arith) c.if-not-take_next.false c.loop.invariant c.take_next.ensures

pub returns-then-not-take_next : goal.returns-then-not-take_next
returns-then-not-take_next g c =
    let inner : LoopState (Nonblocking Socket) g.row.S.Denot = record {
      listener = c.self.inside.listener;
      server = c.self.inside.server;
      own = c.self.inside.desk.own;
      clients = c.self.inside.clients;
      clock = c.self.inside.clock;
      comes = c.self.inside.comes;
      is_owed = c.self.inside.is_owed;
      news = c.self.inside.news.items;
    } in
    some_taken g.S.Store.calls c.args.now c.loop.counter inner c.args.self.now c.loop.self c.take_next.new.self c.self.view_is c.if-not-self.false c.loop.auto.counter-end c.loop.invariant
    (none_waits g.S.Store.calls c.args.now c.loop.self c.take_next.new.self c.take_next.result c.if-not-take_next.true c.take_next.ensures)

pub returns : goal.returns
returns g c =
    let inner : LoopState (Nonblocking Socket) g.row.S.Denot = record {
      listener = c.self.inside.listener;
      server = c.self.inside.server;
      own = c.self.inside.desk.own;
      clients = c.self.inside.clients;
      clock = c.self.inside.clock;
      comes = c.self.inside.comes;
      is_owed = c.self.inside.is_owed;
      news = c.self.inside.news.items;
    } in
    some_taken g.S.Store.calls c.args.now c.loop.counter inner c.args.self.now c.loop.self c.loop.self c.self.view_is c.if-not-self.false c.loop.auto.counter-end c.loop.invariant refl
