use Rattle.std.proofs.Common.{subst, sym, eqb}
use Rattle.std.specs.List.{IsDistinct}
use Rattle.placement.proofs.Best.{range_distinct}
use Rattle.world.proofs.Moving.{next_node}
use Rattle.world.proofs.nodes.nodes_up_to.Goals as goal

pub loop-node-preserved : goal.loop-node-preserved
loop-node-preserved c = next_node c.loop-node.nodes.items c.push.new.self.items c.loop-node.node c.loop-node.invariant c.in_ok-push.ensures.items

pub returns-clause-distinct : goal.returns-clause-distinct
returns-clause-distinct c = subst (IsDistinct eqb) (sym c.loop-node.invariant) (range_distinct 0 c.loop-node.node)
