-- The grammar of a share.
use Rattle.std.specs.Prelude.{◌≡◌, ℕ, ◌<◌, ◌≤◌, List, [], ◌∷◌, ◌++◌, length, take, drop}
use Rattle.std.specs.Int.{w16, to_be_bytes}
use Rattle.merkle.specs.Tree.{height, needed_numbers}
use Rattle.ueb.specs.Limits.{max_length}
use Rattle.share_layout.specs.Geometry.{Geometry, hashes_size, share_data_size, tree_size}
use Rattle.share_layout.specs.Layout.{header, layout_of, spelled}

-- what a share holds behind its header
pub record Sections : Type 0 where
  pub blocks : List ℕ
  pub unused : List ℕ
  pub ciphertext_tree : List ℕ
  pub block_tree : List ℕ
  pub share_hashes : List ℕ
  pub extension_block : List ℕ

-- a share: the header, and the sections in their order, the last of them behind its length
abbrev pub share_bytes : Geometry → Sections → List ℕ
share_bytes g s =
    header g ++ s.blocks ++ s.unused ++ s.ciphertext_tree ++ s.block_tree ++ s.share_hashes
    ++ spelled (layout_of g) (length s.extension_block) ++ s.extension_block

-- each section has its length
pub record HaveLengths (g : Geometry) (s : Sections) : Type 0 where
  pub blocks : length s.blocks ≡ share_data_size g
  pub unused : length s.unused ≡ tree_size g
  pub ciphertext_tree : length s.ciphertext_tree ≡ tree_size g
  pub block_tree : length s.block_tree ≡ tree_size g
  pub share_hashes : length s.share_hashes ≡ hashes_size g
  pub extension_block : length s.extension_block ≤ max_length

-- the hashes in the section, 34 bytes each, begin with these numbers in two bytes each, and no more
-- follows
abbrev pub CarriesNumbers : List ℕ → List ℕ → Type 0
CarriesNumbers [] hashes = hashes ≡ []
CarriesNumbers (n ∷ ns) hashes =
    (take 2 hashes ≡ to_be_bytes w16 n) × CarriesNumbers ns (drop 34 hashes)

-- the bytes are share `num` of a file with this geometry, and these are its sections
pub record IsShare (g : Geometry) (num : ℕ) (bytes : List ℕ) (s : Sections) : Type 0 where
  pub text : bytes ≡ share_bytes g s
  pub lengths : HaveLengths g s
  pub number : num < g.total
  pub numbers : CarriesNumbers (needed_numbers (height g.total) num) s.share_hashes
