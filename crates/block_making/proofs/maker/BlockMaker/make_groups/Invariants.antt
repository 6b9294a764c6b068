use Rattle.block_making.specs.Making.{AreSlots}
use Rattle.block_making.proofs.maker.BlockMaker.make_groups.Given as goal

abbrev pub invariant-loop-group : goal.invariant-loop-group
invariant-loop-group l = record { slots : AreSlots l.fn.self.geometry l.fn.self.leaves l.slots }
