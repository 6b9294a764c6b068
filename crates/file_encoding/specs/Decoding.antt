-- What the blocks of shares have to be for segments to be decoded of them.
use Rattle.std.specs.Prelude.{◌≡◌, ℕ, ◌<◌, List, length, All}
use Rattle.zfec_code.specs.Rows.{AreDistinct}
use Rattle.share_layout.specs.Geometry.{Geometry, share_data_size}

-- as many shares as are needed, each with another number below N, and each with all its blocks
pub record AreBlocks (g : Geometry) (numbers : List ℕ) (blocks : List (List ℕ)) : Type 0 where
  pub count : length numbers ≡ g.needed
  pub counted : length blocks ≡ g.needed
  pub in_range : All (λ n. n < g.total) numbers
  pub distinct : AreDistinct numbers
  pub whole : All (λ b. length b ≡ share_data_size g) blocks
