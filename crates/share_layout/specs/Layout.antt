-- The two layouts of a share, and its header. They differ in their version, and in how many bytes
-- each number behind it has.
use Rattle.std.specs.Prelude.{ℕ, ◌+◌, ◌*◌, ◌^◌, List, [], ◌∷◌, ◌++◌, nat_lt, if◌then◌else◌}
use Rattle.std.specs.Int.{w32, w64, to_be_bytes, from_be_bytes}
use Rattle.std.specs.List.{flat_map, list_all}
use Rattle.share_layout.specs.declared.layout.Layout.{Layout}
use Rattle.share_layout.specs.declared.layout.Layout.TheVariants.{One, Two}
use Rattle.share_layout.specs.declared.offsets.Offsets.{Offsets}
use Rattle.share_layout.specs.Geometry.{Geometry, block_size, hashes_size, share_data_size}
use Rattle.share_layout.specs.Geometry.{tree_size}

-- the version, with which a share begins, in four bytes
abbrev pub version : Layout → ℕ
version One = 1
version Two = 2

-- how many bytes each other number has
abbrev pub width : Layout → ℕ
width One = 4
width Two = 8

-- the length of a header: the version and eight numbers
abbrev pub header_size : Layout → ℕ
header_size layout = 4 + 8 * width layout

-- a number in so many bytes, the high one first
abbrev pub spelled : Layout → ℕ → List ℕ
spelled One number = to_be_bytes w32 number
spelled Two number = to_be_bytes w64 number

-- the number in so many bytes
abbrev pub number_in : Layout → List ℕ → ℕ
number_in One bytes = from_be_bytes w32 bytes
number_in Two bytes = from_be_bytes w64 bytes

-- the offsets of a share's sections, by their lengths: the blocks stand behind the header
abbrev pub offsets_by : Layout → Geometry → Offsets
offsets_by layout g = let unused = header_size layout + share_data_size g in record {
  layout = layout;
  unused = unused;
  ciphertext_tree = unused + tree_size g;
  block_tree = unused + 2 * tree_size g;
  share_hashes = unused + 3 * tree_size g;
  extension_block = unused + 3 * tree_size g + hashes_size g;
}

-- the numbers of a header behind the version: the lengths of a block and of the data, and the
-- offsets of the six sections
abbrev pub header_numbers : Layout → Geometry → List ℕ
header_numbers layout g =
    let p = offsets_by layout g in
    block_size g ∷ share_data_size g ∷ header_size layout ∷ p.unused ∷ p.ciphertext_tree
    ∷ p.block_tree ∷ p.share_hashes ∷ p.extension_block ∷ []

-- the header in a layout
abbrev pub header_by : Layout → Geometry → List ℕ
header_by layout g =
    to_be_bytes w32 (version layout) ++ flat_map (spelled layout) (header_numbers layout g)

-- the layout of a file's shares: the second where a number in a header of the first does not fit
-- its four bytes
abbrev pub layout_of : Geometry → Layout
layout_of g =
    if list_all (λ number. nat_lt number (2 ^ 32)) (header_numbers One g) then One else Two

-- the offsets in the shares of a file with this geometry, and their header
abbrev pub offsets_of : Geometry → Offsets
offsets_of g = offsets_by (layout_of g) g

abbrev pub header : Geometry → List ℕ
header g = header_by (layout_of g) g
