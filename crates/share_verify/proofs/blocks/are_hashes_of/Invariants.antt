use Rattle.std.proofs.Common.{◌≡◌, ℕ, ◌*◌, ◌<◌, [], drop, length, slice_index_or, take}
use Rattle.tagged_hash.specs.TaggedHash.{tagged_hash}
use Rattle.tagged_hash.specs.declared.tag.Tag.TheVariants.{Block}
use Rattle.share_verify.proofs.blocks.are_hashes_of.Given as goal

-- the leaves of the groups so far
abbrev pub invariant-loop-group : goal.invariant-loop-group
invariant-loop-group l = (k : ℕ) → k < 8 * l.group → k < length l.leaves
    → slice_index_or l.leaves k [] ≡ tagged_hash Block (take l.block_size (drop (k * l.block_size) l.blocks))
