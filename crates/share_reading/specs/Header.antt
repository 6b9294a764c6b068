-- Which headers a share may begin with, before its extension block is known.
use Rattle.std.specs.Prelude.{◌≡◌, ℕ, ◌+◌, ◌^◌, ◌<◌, List, take}
use Rattle.ueb.specs.Limits.{max_length}
use Rattle.share_layout.specs.declared.layout.Layout.TheVariants.{Two}
use Rattle.share_layout.specs.declared.offsets.Offsets.{Offsets}
use Rattle.share_layout.specs.Layout.{header_size, width}
use Rattle.share_layout.specs.Offsets.{HasOwnOffsets, HasVersion, layout_in, offsets_in}

-- the bytes begin with version 2
abbrev pub IsSecond : List ℕ → Type 0
IsSecond bytes = layout_in bytes ≡ Two

-- an extension block of any length, at its offset, ends before 2^64
abbrev pub IsReachable : Offsets → Type 0
IsReachable p = p.extension_block + width p.layout + max_length < 2 ^ 64

-- a header that is there whole tells its offsets
pub record TellsOffsets (header : List ℕ) : Type 0 where
  pub version : HasVersion (layout_in header) header
  pub offsets : HasOwnOffsets header

-- the bytes begin with a header that tells these offsets
pub record IsRightHeader (bytes : List ℕ) (p : Offsets) : Type 0 where
  pub tells : TellsOffsets (take (header_size p.layout) bytes)
  pub offsets : p ≡ offsets_in (take (header_size p.layout) bytes)
  pub reachable : IsReachable p
