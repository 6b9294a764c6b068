-- Pieces of a file: each is a part of a segment that an extension block proves, decrypted.
use Rattle.std.specs.Prelude.{◌≡◌, ℕ, ◌+◌, ◌*◌, ◌<◌, ◌≤◌, List, [], ◌∷◌, length, take, drop}
use Rattle.aes_ctr.specs.CounterMode.{xored_from}
use Rattle.ueb.specs.Shape.{Contents}
use Rattle.proved_parts.specs.Parts.{IsSegmentBy}
use Rattle.download_segments.specs.declared.piece.Piece.{Piece}

-- the pieces follow one another, from an offset up to another
abbrev pub AreConsecutive : ℕ → List Piece → ℕ → Type 0
AreConsecutive offset [] end = offset ≡ end
AreConsecutive offset (p ∷ ps) end =
    (p.offset ≡ offset) × (0 < length p.bytes) × AreConsecutive (offset + length p.bytes) ps end

-- The piece is a slice of this segment, decrypted by its offset in the file. `skipped`: how many
-- bytes of the segment are before it.
pub record IsSlice (key : List ℕ) (segment_size number : ℕ) (segment : List ℕ) (p : Piece)
    : Type 0 where
  pub skipped : ℕ
  pub offset_is : p.offset ≡ number * segment_size + skipped
  pub long : skipped + length p.bytes ≤ length segment
  pub bytes_are : p.bytes
      ≡ xored_from key p.offset (take (length p.bytes) (drop skipped segment))

-- it is a slice of a segment that this extension block proves
pub record IsGiven (key : List ℕ) (u : Contents) (p : Piece) : Type 0 where
  pub number : ℕ
  pub segment : List ℕ
  pub siblings : List (List ℕ)
  pub by : IsSegmentBy u number segment siblings
  pub slice : IsSlice key u.segment_size number segment p
