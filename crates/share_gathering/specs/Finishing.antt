-- What shares have behind their blocks, by the leaves of all trees.
use Rattle.std.specs.Prelude.{ℕ, ◌+◌, ◌*◌, ◌<◌, ◌≤◌, ◌^◌, List, [], ◌++◌, length, map}
use Rattle.std.specs.Prelude.{replicate, slice_index_or}
use Rattle.merkle.specs.Tree.{height, tree_nodes}
use Rattle.share_layout.specs.Geometry.{Geometry, tree_size}
use Rattle.share_layout.specs.Writing.{ending}
use Rattle.share_verify.specs.Pieces.{joined}
use Rattle.share_gathering.specs.declared.finishing.Behind.{Behind}

-- a tree may be built over these leaves
pub record HaveLeaves (leaves : List (List ℕ)) : Type 0 where
  pub some : 0 < length leaves
  pub few : length leaves ≤ 2 ^ 20

-- how many bytes each of so many shares carries of the share tree: 34 for each of its rows
abbrev pub hashes_length : ℕ → ℕ
hashes_length total = 34 * (height total + 1)

-- what share i has behind its blocks, by what is kept
abbrev pub bytes_behind : Geometry → Behind → ℕ → List ℕ
bytes_behind g behind i =
    replicate (tree_size g) 0 ++ joined (tree_nodes behind.ciphertext_tree)
    ++ joined (tree_nodes (slice_index_or behind.block_trees.items i []))
    ++ slice_index_or (map (λ (h : _). h.items) behind.share_hashes.items) i []
    ++ ending g behind.extension_block.items
