use Rattle.std.proofs.Common.{◌≡◌, Some, Ok, Err, refl, rules, subst}
use Rattle.std.specs.Prelude.{OnErr}
use Rattle.server_core.specs.declared.error.ServerFault.TheVariants.{OutOfMemory}
use Rattle.local_grid.specs.Nodes.{IsLeftUnanswered, NodeState}
use Rattle.local_grid.proofs.NodeLaws.{back_stops, on_err, server_stops}
use Rattle.local_grid.proofs.node.Node.serve.Goals as goal

pub returns-in-Ok-Some-clause-err : goal.returns-in-Ok-Some-clause-err
returns-in-Ok-Some-clause-err g c =
    let before : NodeState g.row.S.Denot g.row.L.Denot = record { server = c.self.inside.server; link = c.self.inside.link; silent = c.self.inside.silent } in
    let said : c.on_message.result ≡ Ok (Some c.in-Ok-Some.said) = search rules in
    subst (λ (n : NodeState g.row.S.Denot g.row.L.Denot). OnErr c.send_back.result (IsLeftUnanswered g.S.Store.calls g.L.Link.gives_up n c.args.came.now c.args.now c.send_back.new.self)) c.self.view_is
    (on_err g.S.Store.calls g.L.Link.carries g.L.Link.gives_up c.send_back.result
    (back_stops g.S.Store.calls g.L.Link.carries g.L.Link.gives_up before c.send_back.new.self c.args.came.now c.in-Ok-Some.said c.args.now c.on_message.result c.on_message.new.self c.on_message.ensures.serves said c.send_back.ensures.server)
    c.send_back.ensures.err)

pub returns-in-Err-OutOfMemory-clause-err : goal.returns-in-Err-OutOfMemory-clause-err
returns-in-Err-OutOfMemory-clause-err g c =
    let before : NodeState g.row.S.Denot g.row.L.Denot = record { server = c.self.inside.server; link = c.self.inside.link; silent = c.self.inside.silent } in
    let after : NodeState g.row.S.Denot g.row.L.Denot = record { server = c.on_message.new.self; link = c.self.inside.link; silent = c.self.inside.silent } in
    let refused : c.on_message.result ≡ Err OutOfMemory = search rules in
    subst (λ (n : NodeState g.row.S.Denot g.row.L.Denot). IsLeftUnanswered g.S.Store.calls g.L.Link.gives_up n c.args.came.now c.args.now after) c.self.view_is
    (server_stops g.S.Store.calls g.L.Link.carries g.L.Link.gives_up before after c.args.came.now c.args.now c.on_message.result c.on_message.ensures.serves refused refl)
