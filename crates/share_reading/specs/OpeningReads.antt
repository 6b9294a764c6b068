-- Which reads lead to an opening. Those of one share do not overlap.
use Rattle.std.specs.Prelude.{◌≡◌, ℕ, ◌+◌, ◌≤◌, List, length, take, drop, Contains}
use Rattle.cap_text.specs.Cap.{VerifyCapValue}
use Rattle.share_layout.specs.declared.layout.Layout.{Layout}
use Rattle.share_layout.specs.declared.layout.Layout.TheVariants.{One, Two}
use Rattle.share_layout.specs.Layout.{header_size, width}
use Rattle.share_layout.specs.Offsets.{number_at}
use Rattle.share_reading.specs.Opening.{Advances, next_length, next_offset, text_of}
use Rattle.share_reading.specs.declared.header.ShareHeader.{ShareHeader}
use Rattle.share_reading.specs.declared.opening.Opening.{Opening}
use Rattle.share_reading.specs.declared.opening.Opening.TheVariants.{Start, Second, Header, Block}
use Rattle.share_reading.specs.declared.opening.Progress.TheVariants.{Next}

-- the bytes that a read brought, behind the offset of the first
abbrev pub Brought : Type 0
Brought = ℕ × List ℕ

-- a header was read: 36 bytes, and 32 more in layout 2
abbrev pub IsHeaderBy : List Brought → Layout → List ℕ → Type 0
IsHeaderBy reads One header = Contains reads (0, header)
IsHeaderBy reads Two header =
    Contains reads (0, take 36 header) × Contains reads (36, drop 36 header)

-- the length of an extension block was read, behind this header
pub record IsLengthBy (reads : List Brought) (h : ShareHeader) (told : ℕ) : Type 0 where
  pub bytes : List ℕ
  pub read : Contains reads (h.offsets.extension_block, bytes)
  pub long : length bytes ≡ width h.offsets.layout
  pub number : told ≡ number_at h.offsets.layout bytes 0

-- these reads led to the opening
abbrev pub IsLedToBy : List Brought → Opening → Type 0
IsLedToBy reads Start = Unit {0}
IsLedToBy reads (Second start) = Contains reads (0, start.bytes)
IsLedToBy reads (Header h) = IsHeaderBy reads h.offsets.layout (text_of h)
IsLedToBy reads (Block b) =
    IsHeaderBy reads b.header.offsets.layout (text_of b.header)
    × IsLengthBy reads b.header b.block_length

-- a read of so many bytes is the next one of an opening to which these reads led
pub record IsOpening (reads : List Brought) (offset len : ℕ) : Type 0 where
  pub opening : Opening
  pub led : IsLedToBy reads opening
  pub offset_is : offset ≡ next_offset opening
  pub len_is : len ≡ next_length opening

-- where what was read of the share ends
abbrev pub end_of : Opening → ℕ
end_of Start = 0
end_of (Second start) = 36
end_of (Header h) = header_size h.offsets.layout
end_of (Block b) = b.header.offsets.extension_block + width b.header.offsets.layout

-- a law: with the bytes that the next read brought, the reads lead to the opening that comes of it
abbrev pub LeadOn : Type 0
LeadOn = (cap : VerifyCapValue) (reads more : List Brought) (old new : Opening) (bytes : List ℕ)
    → IsLedToBy reads old → Advances cap old bytes (Next new)
    → ((read : Brought) → Contains reads read → Contains more read)
    → Contains more (next_offset old, bytes) → IsLedToBy more new

-- a law: each read begins where what was read before it ends, or behind that
abbrev pub Rise : Type 0
Rise = (cap : VerifyCapValue) (old new : Opening) (bytes : List ℕ)
    → Advances cap old bytes (Next new)
    → (end_of new ≡ next_offset old + next_length old) × (end_of new ≤ next_offset new)
