-- Segments that are wanted.
use Rattle.std.specs.Prelude.{ℕ, ◌<◌, ◌≤◌}
use Rattle.share_layout.specs.Geometry.{Geometry, IsGeometry, segment_count}

-- the segments from `a` to before `b`, one at least
pub record IsRange (g : Geometry) (a b : ℕ) : Type 0 where
  pub valid : IsGeometry g
  pub some : a < b
  pub within : b ≤ segment_count g
