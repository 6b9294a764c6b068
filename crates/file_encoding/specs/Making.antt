-- Words of the clauses that decode segments.
use Rattle.std.specs.Prelude.{◌≡◌, ℕ, ◌*◌, ◌<◌, List, [], length, map, min, take, slice_index_or}
use Rattle.tagged_hash.specs.TaggedHash.{tagged_hash}
use Rattle.tagged_hash.specs.declared.tag.Tag.TheVariants.{CiphertextSegment}
use Rattle.zfec_code.specs.Shares.{AreSharesOf}
use Rattle.ueb.specs.Shape.{rounded_up}
use Rattle.share_layout.specs.Geometry.{Geometry}
use Rattle.share_layout.specs.Pieces.{block_at, segment_at, segment_length}

-- so far: so many segments decode, and each has the hash of its leaf without its padding
pub record PaddedBelow (g : Geometry) (numbers : List ℕ) (blocks leaves : List (List ℕ))
    (text : List ℕ) (count : ℕ) : Type 0 where
  pub size : length text ≡ min (rounded_up g.size g.needed) (count * g.segment_size)
  pub segments : (number : ℕ) → number < count
      → AreSharesOf g.needed (segment_at g number text) numbers (map (block_at g number) blocks)
  pub hashes : (number : ℕ) → number < count
      → tagged_hash CiphertextSegment (take (segment_length g number) (segment_at g number text))
      ≡ slice_index_or leaves number []
