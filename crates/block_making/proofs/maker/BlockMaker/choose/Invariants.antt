use Rattle.std.proofs.Common.{◌≡◌, ◌<◌, ◌≤◌, All, length, slice_index_or}
use Rattle.block_making.proofs.maker.BlockMaker.choose.Given as goal

abbrev pub invariant-loop-share : goal.invariant-loop-share
invariant-loop-share l = record {
  some : 1 ≤ l.count;
  within : l.count ≤ length l.shares;
  own : slice_index_or l.shares 0 0 ≡ l.fn.self.share;
  low : All (λ share. share < l.fn.self.geometry.total) l.shares;
}
