-- Sections of a share that hold a hash tree.
use Rattle.std.specs.Prelude.{◌≡◌, ℕ, ◌/◌, List, length, take}
use Rattle.std.specs.Simd.{first_chunks}
pub use Rattle.merkle.specs.Inputs.{AreHashes}
use Rattle.merkle.specs.Tree.{tree_nodes, tree_root}
use Rattle.share_verify.specs.Pieces.{joined}

-- the section is the nodes of the tree over these leaves, row by row, one after another
pub record HoldsTree (section : List ℕ) (leaves : List (List ℕ)) : Type 0 where
  pub hashes : AreHashes leaves
  pub nodes : section ≡ joined (tree_nodes leaves)

-- the section is the nodes of the tree over some leaves, so many
pub record IsTreeSection (leaf_count : ℕ) (section : List ℕ) : Type 0 where
  pub leaves : List (List ℕ)
  pub count : length leaves ≡ leaf_count
  pub holds : HoldsTree section leaves

-- the section is the nodes of the tree over some leaves, so many, which has this root
pub record IsTreeWithRoot (leaf_count : ℕ) (tree_root_hash section : List ℕ) : Type 0 where
  pub leaves : List (List ℕ)
  pub count : length leaves ≡ leaf_count
  pub holds : HoldsTree section leaves
  pub root : tree_root leaves ≡ tree_root_hash

-- the root of the tree in a section is its first node
abbrev pub root_in : List ℕ → List ℕ
root_in section = take 32 section

-- the hashes that stand in a section, one after another
abbrev pub hashes_in : List ℕ → List (List ℕ)
hashes_in section = first_chunks 32 (length section / 32) section
