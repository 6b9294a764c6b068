-- Segments that follow one another and are gathered at once.
use Rattle.std.specs.Prelude.{◌≡◌, ℕ, ◌-◌, ◌*◌, ◌/◌, ◌^◌, ◌<◌, List, max, min}
use Rattle.std.specs.Int.{div_ceil}
use Rattle.share_layout.specs.Geometry.{Geometry, IsGeometry, block_size, segment_count}
use Rattle.share_layout.specs.Pieces.{pieces}
use Rattle.share_verify.specs.Pieces.{joined}
use Rattle.file_encoding.specs.Encoding.{blocks_of}
use Rattle.share_gathering.specs.Gathered.{Gathered, gathered_segments}
use Rattle.share_gathering.specs.declared.groups.Group.{Group}

-- how many segments are gathered at once: eight, or those that have a MiB of blocks of a share, but
-- at least one
unfoldable pub at_once : Geometry → ℕ
at_once g = max (min (2 ^ 20 / block_size g) 8) 1

-- the segments that begin with this one: so many, or those that are left
pub record IsGroup (g : Geometry) (group : Group) : Type 0 where
  pub valid : IsGeometry g
  pub some : group.first < segment_count g
  pub count : group.count ≡ min (segment_count g - group.first) (at_once g)
  pub offset : group.offset ≡ group.first * g.segment_size
  pub long : group.len ≡ min (group.count * g.segment_size) (g.size - group.offset)
  pub row : group.row ≡ div_ceil group.len g.needed

-- what is gathered with the ciphertext of these segments
abbrev pub gathered_group : Geometry → Group → List ℕ → Gathered → Gathered
gathered_group g group text s =
    gathered_segments g (pieces group.count g.segment_size text) s

-- the blocks of a share of this ciphertext, one after another
abbrev pub row_of : Geometry → Group → List ℕ → ℕ → List ℕ
row_of g group text share =
    joined (blocks_of g.needed share (pieces group.count g.segment_size text))
