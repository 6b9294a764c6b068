-- The geometry of an encoded file: how it is cut into segments, and these into blocks. Sizes are in
-- bytes.
use Rattle.std.specs.Prelude.{◌≡◌, ℕ, ◌+◌, ◌-◌, ◌*◌, ◌/◌, ◌%◌, ◌^◌, ◌<◌, ◌≤◌, min}
use Rattle.std.specs.Int.{div_ceil}
use Rattle.merkle.specs.Tree.{height}
use Rattle.ueb.specs.Shape.{num_segments, rounded_up, tail_size}
use Rattle.ueb.specs.Limits.{max_file_size, max_shares, max_segment_size, max_segments}
use Rattle.share_layout.specs.declared.error.LayoutError.{LayoutError}
use Rattle.share_layout.specs.declared.error.LayoutError.TheVariants.{BadParameters, TooLarge}
use Rattle.share_layout.specs.declared.error.LayoutError.TheVariants.{TooManySegments}

pub record Geometry : Type 0 where
  pub size : ℕ
  pub needed : ℕ
  pub total : ℕ
  pub segment_size : ℕ

-- of a file of this size, of which `needed` of `total` shares are needed, with segments of this
-- size
abbrev pub geometry_with : ℕ → ℕ → ℕ → ℕ → Geometry
geometry_with size needed total segment_size =
    record { size = size; needed = needed; total = total; segment_size = segment_size }

-- the same with segments of at most `max` bytes
abbrev pub geometry_of : ℕ → ℕ → ℕ → ℕ → Geometry
geometry_of size needed total max =
    geometry_with size needed total (rounded_up (min max size) needed)

-- the same of the text with its padding: the size is the least multiple of the shares needed that
-- is the file's or more
abbrev pub with_padding : Geometry → Geometry
with_padding g = record g { size = rounded_up g.size g.needed }

-- the number of segments
abbrev pub segment_count : Geometry → ℕ
segment_count g = num_segments g.size g.segment_size

-- the length of the last segment
abbrev pub tail_length : Geometry → ℕ
tail_length g = tail_size g.size g.segment_size

-- the length of each block but those of the last segment
abbrev pub block_size : Geometry → ℕ
block_size g = g.segment_size / g.needed

-- the length of each block of the last segment
abbrev pub tail_block_size : Geometry → ℕ
tail_block_size g = rounded_up (tail_length g) g.needed / g.needed

-- the length of a share's blocks together
abbrev pub share_data_size : Geometry → ℕ
share_data_size g = div_ceil g.size g.needed

-- the length of a section that holds a tree with a leaf for each segment
abbrev pub tree_size : Geometry → ℕ
tree_size g = (2 * 2 ^ height (segment_count g) - 1) * 32

-- the length of the share hashes: each has 32 bytes behind its number's two
abbrev pub hashes_size : Geometry → ℕ
hashes_size g = (height g.total + 1) * 34

-- what the parameters of a geometry have to be, beside a size that is not too large
pub record AreParameters (size needed total max : ℕ) : Type 0 where
  pub some : 0 < size
  pub some_needed : 0 < needed
  pub enough : needed ≤ total
  pub shares : total ≤ max_shares
  pub some_max : 0 < max
  pub max_not_large : max ≤ max_segment_size

-- a file with these numbers has a geometry
pub record HasGeometry (size needed total max : ℕ) : Type 0 where
  pub parameters : AreParameters size needed total max
  pub not_large : size ≤ max_file_size
  pub few : segment_count (geometry_of size needed total max) ≤ max_segments

-- why a file with these numbers has none: the first fault
abbrev pub IsGeometryFault : ℕ → ℕ → ℕ → ℕ → LayoutError → Type 0
IsGeometryFault size needed total max BadParameters = ¬ AreParameters size needed total max
IsGeometryFault size needed total max TooLarge =
    AreParameters size needed total max × (max_file_size < size)
IsGeometryFault size needed total max TooManySegments =
    AreParameters size needed total max × (size ≤ max_file_size)
    × (max_segments < segment_count (geometry_of size needed total max))
IsGeometryFault size needed total max error = ⊥

-- the size of the longest text with its padding
unfoldable pub max_padded : ℕ → ℕ
max_padded needed = rounded_up max_file_size needed

-- The geometry of some file, or of its text with the padding. Its segment size is that of some
-- greatest length: a multiple of the shares needed, and no more than the text's size or the
-- greatest length that there is, each rounded up to such a multiple.
pub record IsGeometry (g : Geometry) : Type 0 where
  pub some : 0 < g.size
  pub not_large : g.size ≤ max_padded g.needed
  pub some_needed : 0 < g.needed
  pub enough : g.needed ≤ g.total
  pub shares : g.total ≤ max_shares
  pub some_segment : 0 < g.segment_size
  pub multiple : g.segment_size % g.needed ≡ 0
  pub segment_not_large : g.segment_size ≤ rounded_up max_segment_size g.needed
  pub within : g.segment_size ≤ rounded_up g.size g.needed
  pub few : segment_count g ≤ max_segments

-- a law: the geometry of a file is the one that its own segment size gives, where that may be a
-- greatest length
abbrev pub GivesItself : Type 0
GivesItself = (g : Geometry) → IsGeometry g → g.size ≤ max_file_size
    → g.segment_size ≤ max_segment_size
    → HasGeometry g.size g.needed g.total g.segment_size
    × (geometry_of g.size g.needed g.total g.segment_size ≡ g)
