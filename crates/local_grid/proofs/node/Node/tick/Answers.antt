use Rattle.std.proofs.Common.{◌≡◌, ◌∙◌, ap, rules, false, true}
use Rattle.local_grid.specs.Nodes.{NodeState, ticked_node}
use Rattle.local_grid.proofs.NodeLaws.{silent_ticked, speaking_ticked}
use Rattle.local_grid.proofs.node.Node.tick.Goals as goal

pub returns-then-not-self : goal.returns-then-not-self
returns-then-not-self g c =
    let before : NodeState g.row.S.Denot g.row.L.Denot = record { server = c.self.inside.server; link = c.self.inside.link; silent = c.self.inside.silent } in
    let speaks : before.silent ≡ false = search rules in
    speaking_ticked c.args.now before c.tick.new.self speaks c.tick.ensures ∙ ap (ticked_node c.args.now) c.self.view_is

pub returns-else-not-self : goal.returns-else-not-self
returns-else-not-self g c =
    let silent : c.args.self.now.silent ≡ true = search rules in
    silent_ticked c.args.now c.args.self.now silent
