-- Hashes that are the nodes of a tree, row by row from the root.
use Rattle.std.specs.Prelude.{◌≡◌, ℕ, ◌+◌, ◌-◌, ◌*◌, ◌/◌, ◌^◌, ◌<◌, ◌≤◌, List, [], length}
use Rattle.std.specs.Prelude.{slice_index_or, true}
use Rattle.tagged_hash.specs.TaggedHash.{empty_leaf_hash, node_hash}
use Rattle.merkle.specs.Tree.{height, leaves_among, tree_nodes}
use Rattle.merkle.specs.Partial.{is_padding, padding_hash}

-- the nodes are those of the tree over the first leaves of their last row
abbrev pub AreTreeNodes : ℕ → List (List ℕ) → Type 0
AreTreeNodes leaf_count nodes = nodes ≡ tree_nodes (leaves_among nodes leaf_count)

-- this node is the hash of its two children
abbrev pub IsPair : List (List ℕ) → ℕ → Type 0
IsPair nodes i =
    slice_index_or nodes i []
    ≡ node_hash (slice_index_or nodes (2 * i + 1) []) (slice_index_or nodes (2 * i + 2) [])

-- each node that has children is the hash of the two
abbrev pub ArePairs : List (List ℕ) → Type 0
ArePairs nodes = (i : ℕ) → 2 * i + 2 < length nodes → IsPair nodes i

-- after so many leaves, a row goes on with the empty leaves of their positions
abbrev pub IsPadded : ℕ → List (List ℕ) → Type 0
IsPadded leaf_count row = (position : ℕ) → leaf_count ≤ position → position < length row
    → slice_index_or row position [] ≡ empty_leaf_hash position

-- the nodes over empty leaves alone are those of each tree of so many leaves
abbrev pub HasPadding : ℕ → List (List ℕ) → Type 0
HasPadding leaf_count nodes = (number : ℕ) → is_padding leaf_count number ≡ true
    → slice_index_or nodes number [] ≡ padding_hash leaf_count number

-- the number behind the last node of a row that has a leaf below it
abbrev pub own_end : ℕ → ℕ → ℕ
own_end leaf_count row = 2 ^ row + (leaf_count - 1) / 2 ^ (height leaf_count - row)
