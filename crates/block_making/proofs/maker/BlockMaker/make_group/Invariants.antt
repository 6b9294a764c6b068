use Rattle.std.proofs.Common.{◌<◌, slice_index_or, take}
use Rattle.share_layout.specs.Pieces.{block_length}
use Rattle.block_making.specs.Making.{AreSlots, IsBlock}
use Rattle.block_making.proofs.maker.BlockMaker.make_group.Given as goal

abbrev pub invariant-loop-lane : goal.invariant-loop-lane
invariant-loop-lane l = record {
  slots : AreSlots l.fn.self.geometry l.fn.self.leaves l.slots;
  first : 0 < l.lane → IsBlock l.fn.self.geometry l.fn.self.leaves (slice_index_or l.fn.shares 0 0) l.fn.number (take (block_length l.fn.self.geometry l.fn.number) l.lanes);
}
