use Rattle.std.proofs.Common.{◌≡◌, ℕ, ◌*◌, ◌<◌, drop, slice_index_or, take}
use Rattle.zfec_code.specs.ShareValue.{share_block}
use Rattle.block_making.proofs.maker.BlockMaker.encode.Given as goal

abbrev pub invariant-loop-lane : goal.invariant-loop-lane
invariant-loop-lane l = (i : ℕ) → i < l.lane → take l.size (drop (i * l.size) l.lanes) ≡ share_block l.fn.self.geometry.needed (slice_index_or l.shares i 0) l.size l.padded
