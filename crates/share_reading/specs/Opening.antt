-- How a share is begun to be read: which bytes are read, and what comes of them. Offsets and
-- lengths are in bytes.
use Rattle.std.specs.Prelude.{◌≡◌, ℕ, ◌+◌, List, ◌++◌, length, take}
use Rattle.cap_text.specs.Cap.{VerifyCapValue}
use Rattle.share_layout.specs.Geometry.{Geometry}
use Rattle.share_layout.specs.Layout.{header, header_size, offsets_of, width}
use Rattle.share_layout.specs.Offsets.{number_at}
use Rattle.share_layout.specs.Reading.{HasHeader}
use Rattle.share_verify.specs.CapBlock.{IsUebFor, geometry_by}
use Rattle.share_reading.specs.declared.header.ShareHeader.{ShareHeader}
use Rattle.share_reading.specs.declared.block.Opened.{Opened}
use Rattle.share_reading.specs.declared.opening.Opening.{Opening}
use Rattle.share_reading.specs.declared.opening.Opening.TheVariants.{Start, Second, Header, Block}
use Rattle.share_reading.specs.declared.opening.Progress.{Progress}
use Rattle.share_reading.specs.declared.opening.Progress.TheVariants.{Next, Done}

-- the header that was read
abbrev pub text_of : ShareHeader → List ℕ
text_of h = take (header_size h.offsets.layout) h.bytes

-- Where the next read begins: the first 36 bytes are read, the 32 that follow where they begin with
-- version 2, the extension block's length at the offset that the header tells, and the extension
-- block behind it.
abbrev pub next_offset : Opening → ℕ
next_offset Start = 0
next_offset (Second start) = 36
next_offset (Header h) = h.offsets.extension_block
next_offset (Block b) = b.header.offsets.extension_block + width b.header.offsets.layout

-- and how many bytes it asks for
abbrev pub next_length : Opening → ℕ
next_length Start = 36
next_length (Second start) = 32
next_length (Header h) = width h.offsets.layout
next_length (Block b) = b.block_length

-- with the bytes that the next read brought, the opening is this one
abbrev pub Continues : Opening → List ℕ → Opening → Type 0
Continues Start bytes (Second start) = start.bytes ≡ bytes
Continues Start bytes (Header h) = text_of h ≡ bytes
Continues (Second start) bytes (Header h) = text_of h ≡ start.bytes ++ bytes
Continues (Header h) bytes (Block b) =
    (b.header ≡ h) × (b.block_length ≡ number_at h.offsets.layout bytes 0)
Continues old bytes new = ⊥

-- the bytes are the extension block of the cap's file, and it asks for the header that was read
pub record IsOpened (cap : VerifyCapValue) (read bytes : List ℕ) (o : Opened) : Type 0 where
  pub ueb : IsUebFor cap bytes o.ueb
  pub geometry : o.geometry ≡ geometry_by o.ueb
  pub header : HasHeader o.geometry read
  pub offsets : o.offsets ≡ offsets_of o.geometry

-- what comes of the bytes that the next read brought, which are as many as it asked for
abbrev pub Advances : VerifyCapValue → Opening → List ℕ → Progress → Type 0
Advances cap old bytes (Next new) = (length bytes ≡ next_length old) × Continues old bytes new
Advances cap (Block b) bytes (Done o) =
    (length bytes ≡ b.block_length) × IsOpened cap (text_of b.header) bytes o
Advances cap old bytes (Done o) = ⊥

-- what was read of the header is as in the shares of a file with this geometry
abbrev pub Agrees : Geometry → Opening → Type 0
Agrees g Start = Unit {0}
Agrees g (Second start) = take 36 (header g) ≡ start.bytes
Agrees g (Header h) = HasHeader g (text_of h)
Agrees g (Block b) = HasHeader g (text_of b.header)
