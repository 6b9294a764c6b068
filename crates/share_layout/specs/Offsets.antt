-- The offsets of a share's sections, where its own header says that they are.
use Rattle.std.specs.Prelude.{◌≡◌, ℕ, ◌+◌, ◌*◌, ◌<◌, ◌≤◌, List, ◌++◌, length, take, drop, nat_eq}
use Rattle.std.specs.Prelude.{nat_lt, if◌then◌else◌, ◌⊎◌}
use Rattle.std.specs.Int.{w32, to_be_bytes}
use Rattle.std.specs.List.{starts_with}
use Rattle.ueb.specs.Limits.{max_length}
use Rattle.share_layout.specs.declared.error.Section.{Section}
use Rattle.share_layout.specs.declared.error.Section.TheVariants.{Header, Data, Unused}
use Rattle.share_layout.specs.declared.error.Section.TheVariants.{CiphertextTree, BlockTree}
use Rattle.share_layout.specs.declared.error.Section.TheVariants.{ShareHashes, Ueb}
use Rattle.share_layout.specs.declared.layout.Layout.{Layout}
use Rattle.share_layout.specs.declared.layout.Layout.TheVariants.{One, Two}
use Rattle.share_layout.specs.declared.offsets.Offsets.{Offsets}
use Rattle.share_layout.specs.Layout.{header_size, number_in, spelled, version, width}

-- The layout by which a header is measured: the second where the bytes begin with its version, and
-- the first for any others.
abbrev pub layout_in : List ℕ → Layout
layout_in bytes = if starts_with nat_eq bytes (to_be_bytes w32 (version Two)) then Two else One

-- the number at an offset, in as many bytes as the layout gives it
abbrev pub number_at : Layout → List ℕ → ℕ → ℕ
number_at layout bytes offset = number_in layout (take (width layout) (drop offset bytes))

-- a header's number, by its offset among the eight behind the version
abbrev pub header_number : List ℕ → ℕ → ℕ
header_number bytes i = number_at (layout_in bytes) bytes (4 + width (layout_in bytes) * i)

-- the offsets that a header tells
abbrev pub offsets_in : List ℕ → Offsets
offsets_in bytes = record {
  layout = layout_in bytes;
  unused = header_number bytes 3;
  ciphertext_tree = header_number bytes 4;
  block_tree = header_number bytes 5;
  share_hashes = header_number bytes 6;
  extension_block = header_number bytes 7;
}

-- each offset is above the one before it
pub record AreRising (p : Offsets) : Type 0 where
  pub unused : header_size p.layout < p.unused
  pub ciphertext_tree : p.unused < p.ciphertext_tree
  pub block_tree : p.ciphertext_tree < p.block_tree
  pub share_hashes : p.block_tree < p.share_hashes
  pub extension_block : p.share_hashes < p.extension_block

-- a header is cut short
abbrev pub IsShortHeader : List ℕ → Type 0
IsShortHeader bytes = length bytes < header_size (layout_in bytes)

-- a header is there, and is one of this layout
pub record HasVersion (layout : Layout) (bytes : List ℕ) : Type 0 where
  pub long : header_size layout ≤ length bytes
  pub version : take 4 bytes ≡ to_be_bytes w32 (version layout)

-- what the header says of its own is as it can be: the blocks stand behind it, and the offsets rise
pub record HasOwnOffsets (bytes : List ℕ) : Type 0 where
  pub data_offset : header_number bytes 2 ≡ header_size (layout_in bytes)
  pub rising : AreRising (offsets_in bytes)

-- the length of the extension block, which stands before it
abbrev pub extension_length : Offsets → List ℕ → ℕ
extension_length p bytes = number_at p.layout bytes p.extension_block

-- where a share ends
abbrev pub end_of : Offsets → List ℕ → ℕ
end_of p bytes = p.extension_block + width p.layout + extension_length p bytes

-- the length of the extension block is there, and it is too great, or bytes follow the extension
-- block
pub record HasBadEnd (p : Offsets) (bytes : List ℕ) : Type 0 where
  pub there : p.extension_block + width p.layout ≤ length bytes
  pub bad : (max_length < extension_length p bytes) ⊎ (end_of p bytes < length bytes)

-- the section in which an offset lies; the length of the extension block belongs to that
abbrev pub section_at : Offsets → ℕ → Section
section_at p offset =
    if nat_lt offset (header_size p.layout) then Header else
    if nat_lt offset p.unused then Data else
    if nat_lt offset p.ciphertext_tree then Unused else
    if nat_lt offset p.block_tree then CiphertextTree else
    if nat_lt offset p.share_hashes then BlockTree else
    if nat_lt offset p.extension_block then ShareHashes else
    Ueb

-- the bytes end with this extension block, which stands at its offset, behind its length
pub record EndsWith (p : Offsets) (bytes extension_block : List ℕ) : Type 0 where
  pub text : bytes ≡ take p.extension_block bytes
      ++ spelled p.layout (length extension_block) ++ extension_block
  pub offset : p.extension_block ≤ length bytes
  pub short : length extension_block ≤ max_length

-- by the header's own numbers, this is the extension block
pub record LocatesUeb (bytes extension_block : List ℕ) : Type 0 where
  pub version : HasVersion (layout_in bytes) bytes
  pub offsets : HasOwnOffsets bytes
  pub ends : EndsWith (offsets_in bytes) bytes extension_block
