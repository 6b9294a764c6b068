-- Words of the clauses that select shares and read them.
use Rattle.std.specs.Prelude.{◌≡◌, ℕ, ◌<◌, List, [], length, map, slice_index, slice_index_or}
use Rattle.cap_text.specs.Cap.{VerifyCapValue}
use Rattle.share_layout.specs.Geometry.{Geometry}
use Rattle.share_layout.specs.Share.{IsShare, Sections}
use Rattle.file_encoding.specs.Reading.{AreLowest, TakenShare, Takes, offsets_of}

-- at these positions stand the lowest shares below a number
pub record AreLowestAt (cap : VerifyCapValue) (numbers : List ℕ) (strings : List (List ℕ))
    (below : ℕ) (positions : List ℕ) : Type 0 where
  pub taken : List TakenShare
  pub lowest : AreLowest cap numbers strings below taken
  pub at : positions ≡ offsets_of taken

-- at these positions stand the shares that the reader takes
pub record TakesAt (cap : VerifyCapValue) (numbers : List ℕ) (strings : List (List ℕ))
    (positions : List ℕ) : Type 0 where
  pub taken : List TakenShare
  pub takes : Takes cap numbers strings taken
  pub at : positions ≡ offsets_of taken

-- the numbers and the blocks of the shares at these positions, of a file with this geometry
pub record HaveBlocks (g : Geometry) (numbers : List ℕ) (strings : List (List ℕ))
    (positions these : List ℕ) (blocks : List (List ℕ)) : Type 0 where
  pub numbered : these ≡ map (λ p. slice_index numbers p) positions
  pub counted : length blocks ≡ length positions
  pub blocks_of : (m : ℕ) → m < length positions → (s : Sections)
      → IsShare g (slice_index numbers (slice_index positions m))
      (slice_index_or strings (slice_index positions m) []) s → slice_index_or blocks m []
      ≡ s.blocks
