-- Blocks and the leaves that are their hashes.
use Rattle.std.specs.Prelude.{◌≡◌, ℕ, ◌*◌, ◌<◌, List, [], length, take, drop, slice_index_or}
use Rattle.tagged_hash.specs.TaggedHash.{tagged_hash}
use Rattle.tagged_hash.specs.declared.tag.Tag.TheVariants.{Block}

-- each leaf is the hash of the block at its position; blocks have this size, the last one perhaps
-- less
abbrev pub AreBlockHashes : List (List ℕ) → ℕ → List ℕ → Type 0
AreBlockHashes leaves block_size blocks = (i : ℕ) → i < length leaves
    → slice_index_or leaves i [] ≡ tagged_hash Block (take block_size (drop
    (i * block_size) blocks))
