-- Segments, decoded from blocks.
use Rattle.std.specs.Prelude.{◌≡◌, ℕ, ◌*◌, List, length, take}
use Rattle.zfec_code.specs.Shares.{AreSharesOf}
use Rattle.share_layout.specs.Geometry.{Geometry}
use Rattle.share_layout.specs.Pieces.{block_length, segment_length}

-- Blocks of the segment with this number, as many as are needed, decode to it: they are the shares,
-- with these numbers, of a padded segment, which begins with it.
pub record DecodesBlocks (g : Geometry) (numbers : List ℕ) (blocks : List (List ℕ)) (number : ℕ)
    (segment : List ℕ) : Type 0 where
  pub padded : List ℕ
  pub whole : length padded ≡ g.needed * block_length g number
  pub shares : AreSharesOf g.needed padded numbers blocks
  pub cut : segment ≡ take (segment_length g number) padded
  pub long : length segment ≡ segment_length g number
