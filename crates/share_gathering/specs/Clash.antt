-- Blocks that have the hashes of a share's blocks.
use Rattle.std.specs.Prelude.{◌≡◌, ◌⊎◌, ℕ, List, Contains}
use Rattle.tagged_hash.specs.Clash.{IsClash}
use Rattle.tagged_hash.specs.TaggedHash.{tagged_input}
use Rattle.tagged_hash.specs.declared.tag.Tag.TheVariants.{Block}
use Rattle.share_verify.specs.Pieces.{block_hashes}

-- one of the first blocks and one of the second are a clash
pub record HaveClash (own blocks : List (List ℕ)) : Type 0 where
  pub one : List ℕ
  pub other : List ℕ
  pub among : Contains own one
  pub among_too : Contains blocks other
  pub clash : IsClash (tagged_input Block one) (tagged_input Block other)

-- a law: blocks with the hashes of a share's blocks are these, or two hash inputs clash
abbrev pub BlocksOrClash : Type 0
BlocksOrClash = (own blocks : List (List ℕ)) → block_hashes blocks ≡ block_hashes own
    → (blocks ≡ own) ⊎ HaveClash own blocks
