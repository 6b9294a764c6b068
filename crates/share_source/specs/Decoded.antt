-- What a source brings that is decoded from shares.
use Rattle.std.specs.Prelude.{◌≡◌, ◌⊎◌, ℕ, ◌+◌, ◌*◌, ◌/◌, ◌%◌, ◌<◌, ◌≤◌, Bool, false, List, []}
use Rattle.std.specs.Prelude.{◌++◌, All, length, map, drop, take, Some}
use Rattle.std.specs.List.{zip}
use Rattle.zfec_code.specs.Shares.{AreSharesOf}
use Rattle.ueb.specs.Shape.{rounded_up}
use Rattle.share_layout.specs.Geometry.{Geometry, block_size}
use Rattle.share_layout.specs.Layout.{header_size, layout_of}
use Rattle.share_layout.specs.Pieces.{block_length}
use Rattle.download_segments.specs.Decoding.{AreShareNumbers}
use Rattle.share_source.specs.Reads.{Fails, Gives}
use Rattle.share_source.specs.Candidates.{AreBlocksTold, AreReadOn, AreSharesRead, Candidates}
use Rattle.share_source.specs.Candidates.{HaveTooFew, ShareRead, leaves_held, picked_numbers}
use Rattle.share_source.specs.declared.place.Place.{Place}

-- The shares of a file, the positions of those that are read now, whether the last read that failed
-- did so for want of memory, and how many reads failed.
pub record Decoding (B : Type 0) : Type 0 where
  pub geometry : Geometry
  pub candidates : Candidates B
  pub reading : List ℕ
  pub lacks_memory : Bool
  pub failures : ℕ

-- where the block of a segment lies in each share
abbrev pub block_place : Geometry → ℕ → Place
block_place g number = record {
  segment = number;
  begin = header_size (layout_of g) + number * block_size g;
  size = block_length g number;
}

-- reads that brought a block each
abbrev pub blocks_read : List ℕ → List (List ℕ) → List ShareRead
blocks_read positions blocks =
    map (λ read. ShareRead.block read.0 (Some read.1)) (zip positions blocks)

-- A segment with its padding was decoded from its blocks. These were read last, of the shares that
-- are read then, one of each, and have the hashes that the leaves tell which are held of these
-- shares. Before them leaves were read, and blocks of other shares, which were struck out.
pub record IsSegmentDecoded {B : Type 0} (gives : Gives B) (fails : Fails B)
    (g : Geometry) (number : ℕ) (old : Candidates B)
    (padded : List ℕ) (reading : List ℕ) (new : Candidates B) : Type 0 where
  pub before : List ShareRead
  pub blocks : List (List ℕ)
  pub read : AreSharesRead gives fails (block_place g number) old
      (before ++ blocks_read reading blocks) new
  pub enough : length blocks ≡ g.needed
  pub alike : All (λ (b : List ℕ). length b ≡ block_length g number) blocks
  pub told : AreBlocksTold old.ueb number (picked_numbers old.numbers reading)
      (map (leaves_held new.held) reading) blocks
  pub numbers : AreShareNumbers g (picked_numbers old.numbers reading)
  pub long : length padded ≡ g.needed * block_length g number
  pub shares : AreSharesOf g.needed padded (picked_numbers old.numbers reading) blocks

-- the bytes are of the segment that has the offset inside, from the offset on
pub record IsSegmentPart {B : Type 0} (gives : Gives B) (fails : Fails B)
    (old : Decoding B) (offset : ℕ) (bytes : List ℕ) (new : Decoding B) : Type 0 where
  pub padded : List ℕ
  pub segment : IsSegmentDecoded gives fails old.geometry (offset / old.geometry.segment_size)
      old.candidates padded new.reading new.candidates
  pub some : 0 < length bytes
  pub part : bytes ≡ take (length bytes) (drop (offset % old.geometry.segment_size) padded)
  pub read_on : AreReadOn old.reading new.candidates.struck new.reading
  pub others : new ≡ record old { candidates = new.candidates; reading = new.reading }

-- What a read brings: bytes of one segment with its padding, or none behind the last.
abbrev pub GivesDecoded : {B : Type 0} → Gives B → Fails B → Decoding B → ℕ → List ℕ
    → Decoding B → Type 0
GivesDecoded gives fails old offset bytes new =
    ((rounded_up old.geometry.size old.geometry.needed ≤ offset) × (bytes ≡ []) × (new ≡ old))
    ⊎ ((offset < rounded_up old.geometry.size old.geometry.needed)
    × IsSegmentPart gives fails old offset bytes new)

-- A read brought nothing: leaves, and blocks of the segment that has the offset inside, were read
-- of shares, and then memory was refused, or too few shares were left.
pub record BroughtNothing {B : Type 0} (gives : Gives B) (fails : Fails B)
    (old : Decoding B) (offset : ℕ) (new : Decoding B) : Type 0 where
  pub reads : List ShareRead
  pub read : AreSharesRead gives fails
      (block_place old.geometry (offset / old.geometry.segment_size)) old.candidates reads
      new.candidates
  pub cause : new.lacks_memory ≡ false
      → HaveTooFew old.geometry.needed old.candidates.numbers new.candidates.struck
  pub read_on : AreReadOn old.reading new.candidates.struck new.reading
  pub geometry : new.geometry ≡ old.geometry
