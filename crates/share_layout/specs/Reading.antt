-- The first fault of bytes that are no share.
use Rattle.std.specs.Prelude.{◌≡◌, ◌≢◌, ℕ, ◌<◌, ◌≤◌, List, ◌⊎◌, length, take}
use Rattle.std.specs.Prelude.{slice_range}
use Rattle.std.specs.Int.{w32, to_be_bytes}
use Rattle.merkle.specs.Tree.{height, needed_numbers}
use Rattle.ueb.specs.Limits.{max_length}
use Rattle.share_layout.specs.declared.error.LayoutError.{LayoutError}
use Rattle.share_layout.specs.declared.error.LayoutError.TheVariants.{BadVersion, BadOffset}
use Rattle.share_layout.specs.declared.error.LayoutError.TheVariants.{Truncated, BadShareHashes}
use Rattle.share_layout.specs.declared.error.Section.TheVariants.{Header}
use Rattle.share_layout.specs.declared.layout.Layout.{Layout}
use Rattle.share_layout.specs.declared.view.ShareView.{ShareView}
use Rattle.share_layout.specs.declared.offsets.Offsets.{Offsets}
use Rattle.share_layout.specs.Geometry.{Geometry}
use Rattle.share_layout.specs.Layout.{header, header_size, layout_of, offsets_of, version}
use Rattle.share_layout.specs.Share.{Sections, CarriesNumbers}
use Rattle.share_layout.specs.Offsets.{offsets_in, layout_in, IsShortHeader, HasVersion}
use Rattle.share_layout.specs.Offsets.{HasOwnOffsets}
use Rattle.share_layout.specs.Offsets.{HasBadEnd, extension_length, end_of, section_at}

-- the sections of a view, without where they lie in memory
abbrev pub sections_in : ShareView → Sections
sections_in v = record {
  blocks = v.blocks.now;
  unused = v.unused.now;
  ciphertext_tree = v.ciphertext_tree.now;
  block_tree = v.block_tree.now;
  share_hashes = v.share_hashes.now;
  extension_block = v.extension_block.now;
}

-- a header is there whole, and it is not one of this layout
pub record HasOtherVersion (layout : Layout) (bytes : List ℕ) : Type 0 where
  pub long : header_size (layout_in bytes) ≤ length bytes
  pub other : take 4 bytes ≢ to_be_bytes w32 (version layout)

-- the header is right, and a byte is missing before the share's end
pub record LacksBytes (RightHeader : Type 0) (p : Offsets) (bytes : List ℕ) : Type 0 where
  pub version : HasVersion p.layout bytes
  pub right : RightHeader
  pub end : ¬ HasBadEnd p bytes
  pub lacks : length bytes < end_of p bytes

-- the header is right, and the share ends where it has to
pub record IsWhole (RightHeader : Type 0) (p : Offsets) (bytes : List ℕ) : Type 0 where
  pub version : HasVersion p.layout bytes
  pub right : RightHeader
  pub short : extension_length p bytes ≤ max_length
  pub end : length bytes ≡ end_of p bytes

-- The first fault, where a header of the offsets' layout is to be as `RightHeader` says and then
-- gives these offsets, and the share hashes are to be as `RightHashes` says. A section is truncated
-- where the first byte that is missing lies in it.
abbrev pub IsFault : Type 0 → Type 0 → Offsets → List ℕ → LayoutError → Type 0
IsFault RightHeader RightHashes p bytes (Truncated section) =
    (IsShortHeader bytes × (section ≡ Header))
    ⊎ (LacksBytes RightHeader p bytes × (section ≡ section_at p (length bytes)))
IsFault RightHeader RightHashes p bytes BadVersion = HasOtherVersion p.layout bytes
IsFault RightHeader RightHashes p bytes BadOffset =
    HasVersion p.layout bytes × (¬ RightHeader ⊎ (RightHeader × HasBadEnd p bytes))
IsFault RightHeader RightHashes p bytes BadShareHashes = IsWhole RightHeader p bytes × ¬ RightHashes
IsFault RightHeader RightHashes p bytes error = ⊥

-- why no extension block is found by the header's own numbers; nothing is asked of the share hashes
abbrev pub IsLocateFault : List ℕ → LayoutError → Type 0
IsLocateFault bytes error = IsFault (HasOwnOffsets bytes) (Unit {0}) (offsets_in bytes) bytes error

-- why a header tells no offsets
abbrev pub IsHeaderFault : List ℕ → LayoutError → Type 0
IsHeaderFault bytes (Truncated section) = IsShortHeader bytes × (section ≡ Header)
IsHeaderFault bytes BadVersion = HasOtherVersion (layout_in bytes) bytes
IsHeaderFault bytes BadOffset = HasVersion (layout_in bytes) bytes × ¬ HasOwnOffsets bytes
IsHeaderFault bytes error = ⊥

-- the header is that of each share of a file with this geometry
abbrev pub HasHeader : Geometry → List ℕ → Type 0
HasHeader g bytes = take (header_size (layout_of g)) bytes ≡ header g

-- there is such a share, and the share hashes carry its numbers
pub record HasNumbers (g : Geometry) (num : ℕ) (bytes : List ℕ) : Type 0 where
  pub number : num < g.total
  pub numbers : CarriesNumbers (needed_numbers (height g.total) num)
      (slice_range bytes (offsets_of g).share_hashes (offsets_of g).extension_block)

-- why bytes are not share `num` of a file with this geometry
abbrev pub IsReadFault : Geometry → ℕ → List ℕ → LayoutError → Type 0
IsReadFault g num bytes error =
    IsFault (HasHeader g bytes) (HasNumbers g num bytes) (offsets_of g) bytes error
