-- Lists that are joined, and the hashes of a share's blocks.
use Rattle.std.specs.Prelude.{ℕ, List, map}
use Rattle.std.specs.List.{flat_map}
use Rattle.tagged_hash.specs.TaggedHash.{tagged_hash}
use Rattle.tagged_hash.specs.declared.tag.Tag.TheVariants.{Block}
pub use Rattle.share_layout.specs.Pieces.{pieces}

-- lists of bytes, one after another
abbrev pub joined : List (List ℕ) → List ℕ
joined lists = flat_map (λ l. l) lists

-- the leaves of a share's block tree
abbrev pub block_hashes : List (List ℕ) → List (List ℕ)
block_hashes blocks = map (tagged_hash Block) blocks
