-- Words of the private clauses of the reader: the sections at some offsets.
use Rattle.std.specs.Prelude.{◌≡◌, ℕ, ◌+◌, ◌<◌, ◌≤◌, List, length, drop, slice_range}
use Rattle.ueb.specs.Limits.{max_length}
use Rattle.share_layout.specs.declared.error.LayoutError.{LayoutError}
use Rattle.share_layout.specs.declared.error.LayoutError.TheVariants.{BadVersion, BadOffset}
use Rattle.share_layout.specs.declared.error.LayoutError.TheVariants.{Truncated}
use Rattle.share_layout.specs.declared.error.Section.TheVariants.{Header}
use Rattle.share_layout.specs.declared.layout.Layout.{Layout}
use Rattle.share_layout.specs.declared.offsets.Offsets.{Offsets}
use Rattle.share_layout.specs.Layout.{header_size, width}
use Rattle.share_layout.specs.Share.{Sections}
use Rattle.share_layout.specs.Offsets.{IsShortHeader, HasBadEnd, extension_length, end_of}
use Rattle.share_layout.specs.Offsets.{section_at}
use Rattle.share_layout.specs.Reading.{HasOtherVersion}

-- why a header is not one of this layout
abbrev pub IsVersionFault : Layout → List ℕ → LayoutError → Type 0
IsVersionFault layout bytes (Truncated section) = IsShortHeader bytes × (section ≡ Header)
IsVersionFault layout bytes BadVersion = HasOtherVersion layout bytes
IsVersionFault layout bytes error = ⊥

-- the sections at these offsets
abbrev pub sections_at : Offsets → List ℕ → Sections
sections_at p bytes = record {
  blocks = slice_range bytes (header_size p.layout) p.unused;
  unused = slice_range bytes p.unused p.ciphertext_tree;
  ciphertext_tree = slice_range bytes p.ciphertext_tree p.block_tree;
  block_tree = slice_range bytes p.block_tree p.share_hashes;
  share_hashes = slice_range bytes p.share_hashes p.extension_block;
  extension_block = drop (p.extension_block + width p.layout) bytes;
}

-- the bytes end where they have to, and these are their sections
pub record IsCut (p : Offsets) (bytes : List ℕ) (s : Sections) : Type 0 where
  pub short : extension_length p bytes ≤ max_length
  pub end : length bytes ≡ end_of p bytes
  pub sections : s ≡ sections_at p bytes

-- the first fault behind the header
abbrev pub IsCutFault : Offsets → List ℕ → LayoutError → Type 0
IsCutFault p bytes (Truncated section) =
    ¬ HasBadEnd p bytes × (length bytes < end_of p bytes) × (section ≡ section_at p (length bytes))
IsCutFault p bytes BadOffset = HasBadEnd p bytes
IsCutFault p bytes error = ⊥
