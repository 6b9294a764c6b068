use Rattle.std.proofs.Common.{Option, None, true, refl, sym, subst}
use Rattle.std.specs.Prelude.{OnErr}
use Rattle.std.proofs.lemmas.Result.{IfOk-weaker}
use Rattle.wire.specs.declared.message.Message.{Message}
use Rattle.local_grid.specs.Nodes.{Exchanges, IsMet, NodeState, StopsShort}
use Rattle.local_grid.specs.declared.link.Way.TheVariants.{ToServer}
use Rattle.local_grid.proofs.NodeLaws.{all_later_stop, exchanged}
use Rattle.local_grid.proofs.node.Node.exchange.Goals as goal

pub returns-in-Some : goal.returns-in-Some
returns-in-Some g c =
    let before : NodeState g.row.S.Denot g.row.L.Denot = record { server = c.self.inside.server; link = c.self.inside.link; silent = c.self.inside.silent } in
    record {
      ok = IfOk-weaker c.serve.result _ _
          (λ answer served. subst (λ (n : NodeState g.row.S.Denot g.row.L.Denot). Exchanges g.S.Store.calls g.L.Link.carries n c.args.message.now c.args.now answer c.serve.new.self) c.self.view_is
          (exchanged g.S.Store.calls g.L.Link.carries before c.args.message.now c.args.now c.carry.new.self c.in_ok-came.field-0 answer c.serve.new.self c.if-self.false c.in_ok-came.ensures.ok
          (subst (λ (came : Option Message). IsMet g.S.Store.calls g.L.Link.carries before c.carry.new.self came c.args.now answer c.serve.new.self) (sym c.in-Some.is) served)))
          c.serve.ensures.ok;
      err = subst (λ (n : NodeState g.row.S.Denot g.row.L.Denot). OnErr c.serve.result (StopsShort g.S.Store.calls g.L.Link.carries g.L.Link.gives_up n c.args.message.now c.args.now c.serve.new.self)) c.self.view_is
          (all_later_stop g.S.Store.calls g.L.Link.carries g.L.Link.gives_up c.serve.result before c.serve.new.self c.args.message.now c.in-Some.came c.args.now c.carry.new.self c.if-self.false
          (subst (λ (came : Option Message). g.L.Link.carries c.self.inside.link ToServer c.args.message.now came c.carry.new.self) c.in-Some.is c.in_ok-came.ensures.ok)
          c.serve.ensures.err c.serve.ensures.speaks);
    }

pub returns-in-None : goal.returns-in-None
returns-in-None g c =
    let before : NodeState g.row.S.Denot g.row.L.Denot = record { server = c.self.inside.server; link = c.self.inside.link; silent = c.self.inside.silent } in
    let after : NodeState g.row.S.Denot g.row.L.Denot = record { server = c.self.inside.server; link = c.carry.new.self; silent = true } in
    record {
      ok = subst (λ (n : NodeState g.row.S.Denot g.row.L.Denot). Exchanges g.S.Store.calls g.L.Link.carries n c.args.message.now c.args.now None after) c.self.view_is
          (exchanged g.S.Store.calls g.L.Link.carries before c.args.message.now c.args.now c.carry.new.self c.in_ok-came.field-0 None after c.if-self.false c.in_ok-came.ensures.ok
          (subst (λ (came : Option Message). IsMet g.S.Store.calls g.L.Link.carries before c.carry.new.self came c.args.now None after) (sym c.in-None.is) (refl, refl)));
      err = tt;
    }
