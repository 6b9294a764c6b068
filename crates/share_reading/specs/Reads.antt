-- Which reads lead to a reading. They ask for each byte of a share once, and for none behind its
-- end.
use Rattle.std.specs.Prelude.{◌≡◌, ◌⊎◌, ℕ, ◌+◌, ◌<◌, ◌≤◌, List, [], ◌∷◌, ◌++◌, length, Contains}
use Rattle.std.specs.Prelude.{if◌then◌else◌}
use Rattle.cap_text.specs.Cap.{VerifyCapValue}
use Rattle.ueb.specs.Shape.{Contents}
use Rattle.share_layout.specs.declared.offsets.Offsets.{Offsets}
use Rattle.share_layout.specs.Layout.{header_size, offsets_of, width}
use Rattle.share_verify.specs.CapBlock.{IsUebFor, geometry_by}
use Rattle.share_verify.specs.Checks.{Passes}
use Rattle.share_verify.specs.declared.check.Check.{Check}
use Rattle.share_reading.specs.Blame.{HasAt, HasReads}
use Rattle.share_reading.specs.Opening as opening
use Rattle.share_reading.specs.Opening.{text_of}
use Rattle.share_reading.specs.OpeningReads.{Brought, IsHeaderBy, IsLedToBy, IsLengthBy, IsOpening}
use Rattle.share_reading.specs.declared.block.Opened.{Opened}
use Rattle.share_reading.specs.declared.block.PendingBlock.{PendingBlock}
use Rattle.share_reading.specs.declared.header.ShareHeader.{ShareHeader}
use Rattle.share_reading.specs.declared.opening.Opening.TheVariants.{Start, Second, Header, Block}
use Rattle.share_reading.specs.declared.opening.Progress.TheVariants as progress
use Rattle.share_reading.specs.Reading.{Advances, IsStop, is_behind, next_length}
use Rattle.share_reading.specs.Reading.{next_offset}
use Rattle.share_reading.specs.Whole.{AreConsecutive, IsWhole, joined}
use Rattle.share_reading.specs.declared.reading.ShareReading.{ShareReading}
use Rattle.share_reading.specs.declared.rest.Rest.{Rest}
use Rattle.share_reading.specs.declared.reading.ShareReading.TheVariants.{Beginning, Remaining}
use Rattle.share_reading.specs.declared.reading.Progress.TheVariants.{Next, Whole}

-- where an extension block stands: behind its length
abbrev pub block_start : Offsets → ℕ
block_start p = p.extension_block + width p.layout

-- a read of so many bytes, one at least, is one of the rest: it lies between the header and the
-- extension block, by an extension block of the cap's file that these reads brought
pub record IsRest (cap : VerifyCapValue) (reads : List Brought) (offset len : ℕ) : Type 0 where
  pub u : Contents
  pub block : List ℕ
  pub ueb : IsUebFor cap block u
  pub brought : Contains reads (block_start (offsets_of (geometry_by u)), block)
  pub some : 0 < len
  pub low : header_size (offsets_of (geometry_by u)).layout ≤ offset
  pub high : offset + len ≤ (offsets_of (geometry_by u)).extension_block

-- a read of so many bytes is one of the share's beginning, or one of the rest
abbrev pub IsAsked : VerifyCapValue → List Brought → ℕ → ℕ → Type 0
IsAsked cap reads offset len = IsOpening reads offset len ⊎ IsRest cap reads offset len

-- these reads brought a header, from the share's beginning on
pub record HasHeaderBy (front : List Brought) (h : ShareHeader) : Type 0 where
  pub header : IsHeaderBy front h.offsets.layout (text_of h)
  pub consecutive : AreConsecutive 0 front (header_size h.offsets.layout)

-- These reads brought the beginning of a share of the cap's file: its header, the length of its
-- extension block, and its extension block.
pub record IsOpenedBy (cap : VerifyCapValue) (reads : List Brought) : Type 0 where
  pub block : PendingBlock
  pub led : IsLedToBy reads (Block block)
  pub bytes : List ℕ
  pub brought : Contains reads (opening.next_offset (Block block), bytes)
  pub opened : Opened
  pub ends : opening.Advances cap (Block block) bytes (progress.Done opened)

-- the beginning was read, which tells the share's offsets; `front` brought the bytes up to those to
-- read next, and `back` those from the extension block's length on
pub record IsRestBy (cap : VerifyCapValue) (front back : List Brought) (r : Rest) : Type 0 where
  pub begun : IsOpenedBy cap (front ++ back)
  pub offsets : r.offsets ≡ begun.opened.offsets
  pub before : AreConsecutive 0 front r.next
  pub end : ℕ
  pub behind : AreConsecutive r.offsets.extension_block back end

-- These reads led to the reading: `front` those from the share's beginning on, and `back` those of
-- the extension block and its length.
abbrev pub IsReadBy : VerifyCapValue → List Brought → List Brought → ShareReading → Type 0
IsReadBy cap front back (Beginning Start) = (front ≡ []) × (back ≡ [])
IsReadBy cap front back (Beginning (Second s)) = (front ≡ (0, s.bytes) ∷ []) × (back ≡ [])
IsReadBy cap front back (Beginning (Header h)) = HasHeaderBy front h × (back ≡ [])
IsReadBy cap front back (Beginning (Block b)) = HasHeaderBy front b.header
    × IsLengthBy back b.header b.block_length
    × AreConsecutive b.header.offsets.extension_block back
    (b.header.offsets.extension_block + width b.header.offsets.layout)
IsReadBy cap front back (Remaining r) = IsRestBy cap front back r

-- with the bytes that the next read brought, these are the reads of `front`, and these of `back`
abbrev pub more_front : ShareReading → List ℕ → List Brought → List Brought
more_front r bytes front =
    if is_behind r then front else front ++ (next_offset r, bytes) ∷ []

abbrev pub more_back : ShareReading → List ℕ → List Brought → List Brought
more_back r bytes back = if is_behind r then back ++ (next_offset r, bytes) ∷ [] else back

-- the read asks for none of these bytes
abbrev pub AsksNone : Brought → ℕ → ℕ → Type 0
AsksNone read offset len = (read.0 + length read.1 ≤ offset) ⊎ (offset + len ≤ read.0)

-- a law: the next read is one of the share's beginning or of its rest, and asks for no byte that
-- was read
abbrev pub Ask : Type 0
Ask = (cap : VerifyCapValue) (front back : List Brought) (r : ShareReading)
    → IsReadBy cap front back r
    → IsAsked cap (front ++ back) (next_offset r) (next_length r)
    × ((read : Brought) → Contains (front ++ back) read
    → AsksNone read (next_offset r) (next_length r))

-- a law: with the bytes that the next read brought, the reads lead to the reading that goes on
abbrev pub GoOn : Type 0
GoOn = (cap : VerifyCapValue) (front back : List Brought) (old new : ShareReading) (bytes : List ℕ)
    → IsReadBy cap front back old → Advances cap old bytes (Next new)
    → IsReadBy cap (more_front old bytes front) (more_back old bytes back) new

-- a law: at the end the reads brought all bytes of a share, joined by offset
abbrev pub End : Type 0
End = (cap : VerifyCapValue) (front back : List Brought) (old : ShareReading) (bytes : List ℕ)
    → IsReadBy cap front back old → Advances cap old bytes Whole
    → let reads = more_front old bytes front ++ more_back old bytes back in
    IsWhole reads (joined reads)

-- a law: where a share is not read on for what came, no share that has what was read passes the
-- check
abbrev pub Stop : Type 0
Stop = (cap : VerifyCapValue) (front back : List Brought) (r : ShareReading) (bytes : List ℕ)
    (check : Check) (num : ℕ) (share : List ℕ)
    → IsReadBy cap front back r → IsStop cap r bytes check → length bytes ≡ next_length r
    → HasReads (front ++ back) share → HasAt share (next_offset r) bytes
    → ¬ Passes cap num share check
