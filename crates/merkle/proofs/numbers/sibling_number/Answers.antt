use Rattle.std.proofs.Common.{arith, ◌-◌}
use Rattle.merkle.proofs.NumberLemmas.{room_below, sibling_above}
use Rattle.merkle.proofs.numbers.sibling_number.Goals as goal

pub node_number-requires-clause-inside : goal.node_number-requires-clause-inside
node_number-requires-clause-inside c =
    rw c.sibling.ensures (sibling_above c.args.height c.args.leaf c.args.i c.requires.not_root c.requires.inside)

pub returns-clause-below : goal.returns-clause-below
returns-clause-below c =
    omega (arith, c.node_number.ensures.below, room_below (c.args.height - c.args.i) c.args.height (omega arith))
