-- How a file is cut into segments, and the blocks of a share stand one after another.
use Rattle.std.specs.Prelude.{◌≡◌, ℕ, zero, suc, ◌+◌, ◌-◌, ◌*◌, ◌<◌, List, [], ◌∷◌, take, drop, min}
use Rattle.std.specs.Prelude.{slice_index_or}
use Rattle.std.specs.Int.{div_ceil}
use Rattle.share_layout.specs.Geometry.{Geometry, IsGeometry, block_size, segment_count}
use Rattle.share_layout.specs.Geometry.{share_data_size, tail_block_size, tail_length}

-- so many pieces of this length, the last perhaps shorter
abbrev pub pieces : ℕ → ℕ → List ℕ → List (List ℕ)
pieces zero size text = []
pieces (suc n) size text = take size text ∷ pieces n size (drop size text)

-- the segments of a text
abbrev pub segments_of : Geometry → List ℕ → List (List ℕ)
segments_of g text = pieces (segment_count g) g.segment_size text

-- the segment of this number, and its length
abbrev pub segment_at : Geometry → ℕ → List ℕ → List ℕ
segment_at g number text = take g.segment_size (drop (number * g.segment_size) text)

abbrev pub segment_length : Geometry → ℕ → ℕ
segment_length g number = min g.segment_size (g.size - number * g.segment_size)

-- its block among the blocks of a share, and its length
abbrev pub block_at : Geometry → ℕ → List ℕ → List ℕ
block_at g number blocks = take (block_size g) (drop (number * block_size g) blocks)

abbrev pub block_length : Geometry → ℕ → ℕ
block_length g number = min (block_size g) (share_data_size g - number * block_size g)

-- the lengths of a segment and of its blocks: those of all but the last segment are the same, and a
-- block has a share of its segment, rounded up
pub record HaveCutLengths (g : Geometry) (number : ℕ) : Type 0 where
  pub segment : number + 1 < segment_count g → segment_length g number ≡ g.segment_size
  pub last_segment : number + 1 ≡ segment_count g → segment_length g number ≡ tail_length g
  pub block : number + 1 < segment_count g → block_length g number ≡ block_size g
  pub last_block : number + 1 ≡ segment_count g → block_length g number ≡ tail_block_size g
  pub shared : block_length g number ≡ div_ceil (segment_length g number) g.needed

-- a law: so are the lengths of all segments
abbrev pub SegmentsHaveLengths : Type 0
SegmentsHaveLengths = (g : Geometry) (number : ℕ)
    → IsGeometry g → number < segment_count g → HaveCutLengths g number

-- a law: a segment is the piece of its number
abbrev pub SegmentsArePieces : Type 0
SegmentsArePieces = (g : Geometry) (number : ℕ) (text : List ℕ) → number < segment_count g
    → slice_index_or (segments_of g text) number [] ≡ segment_at g number text
