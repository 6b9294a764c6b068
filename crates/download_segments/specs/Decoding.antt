-- Segments, decoded from the blocks of shares with given numbers.
use Rattle.std.specs.Prelude.{◌≡◌, ℕ, ◌<◌, List, length, All}
use Rattle.zfec_code.specs.Rows.{AreDistinct}
use Rattle.share_layout.specs.Geometry.{Geometry}
use Rattle.share_layout.specs.Pieces.{block_length, pieces}

-- numbers of different shares, as many as are needed
pub record AreShareNumbers (g : Geometry) (numbers : List ℕ) : Type 0 where
  pub enough : length numbers ≡ g.needed
  pub below : All (λ n. n < g.total) numbers
  pub distinct : AreDistinct numbers

-- the geometry of a file, and the numbers of the shares whose blocks are decoded, in the blocks'
-- order
pub record DecodingState : Type 0 where
  pub geometry : Geometry
  pub numbers : List ℕ

abbrev pub IsDecoding : DecodingState → Type 0
IsDecoding d = AreShareNumbers d.geometry d.numbers

-- the blocks of a segment, as many as are needed, that stand one after another
abbrev pub blocks_in : Geometry → ℕ → List ℕ → List (List ℕ)
blocks_in g number joined = pieces g.needed (block_length g number) joined
