-- What is hashed on a way to a root, and for a whole tree.
use Rattle.std.specs.Prelude.{◌≡◌, ℕ, zero, suc, ◌-◌, ◌^◌, ◌<◌, List, [], ◌∷◌, ◌++◌, length, take}
use Rattle.std.specs.Prelude.{drop}
use Rattle.std.specs.Prelude.{map, decimal, nat_lt, if◌then◌else◌, slice_index_or, All, Contains}
use Rattle.std.specs.List.{range_with_len}
use Rattle.tagged_hash.specs.Clash.{HasNoClash}
use Rattle.tagged_hash.specs.TaggedHash.{pair_input, tagged_input}
use Rattle.tagged_hash.specs.declared.tag.Tag.TheVariants.{TreeNode, EmptyLeaf}
use Rattle.merkle.specs.Path.{path_root, siblings_of}
use Rattle.merkle.specs.Tree.{height, padded, root}

-- the hash input of a node, from the hashes of its two children
abbrev pub node_input : List ℕ → List ℕ → List ℕ
node_input left right = pair_input TreeNode left right

-- those of the nodes on the way from a hash at this position up to the root of 2 ^ m hashes
abbrev pub path_inputs : ℕ → ℕ → List ℕ → List (List ℕ) → List (List ℕ)
path_inputs zero position hash siblings = []
path_inputs (suc m) position hash siblings =
    if nat_lt position (2 ^ m)
    then node_input (path_root m position hash siblings) (slice_index_or siblings m [])
    ∷ path_inputs m position hash siblings
    else node_input (slice_index_or siblings m []) (path_root m (position - 2 ^ m) hash siblings)
    ∷ path_inputs m (position - 2 ^ m) hash siblings

-- those of all nodes above 2 ^ m hashes
abbrev pub root_inputs : ℕ → List (List ℕ) → List (List ℕ)
root_inputs zero hashes = []
root_inputs (suc m) hashes =
    node_input (root m (take (2 ^ m) hashes)) (root m (drop (2 ^ m) hashes))
    ∷ root_inputs m (take (2 ^ m) hashes) ++ root_inputs m (drop (2 ^ m) hashes)

-- those of a tree's empty leaves and nodes
abbrev pub tree_inputs : List (List ℕ) → List (List ℕ)
tree_inputs leaves =
    map (λ i. tagged_input EmptyLeaf (decimal i))
    (range_with_len (length leaves) (2 ^ height (length leaves) - length leaves))
    ++ root_inputs (height (length leaves)) (padded leaves)

-- each of these has the 32 bytes of a hash
abbrev pub AreHashes : List (List ℕ) → Type 0
AreHashes hashes = All (λ hash. length hash ≡ 32) hashes

-- all of these are among the inputs
abbrev pub AreAmong : List (List ℕ) → List (List ℕ) → Type 0
AreAmong inputs these = (input : List ℕ) → Contains these input → Contains inputs input

-- a path of hashes, all that is hashed on it among these inputs
pub record IsPathAmong (inputs : List (List ℕ)) (m position : ℕ) (hash : List ℕ)
    (siblings : List (List ℕ)) : Type 0 where
  pub hash_length : length hash ≡ 32
  pub sibling_lengths : (i : ℕ) → i < m → length (slice_index_or siblings i []) ≡ 32
  pub among : AreAmong inputs (path_inputs m position hash siblings)

-- a law: without a clash one hash alone leads from a position to a root
abbrev pub PathsAgree : Type 0
PathsAgree = (inputs : List (List ℕ)) → HasNoClash inputs
    → (m position : ℕ) (first second : List ℕ) (these those : List (List ℕ))
    → IsPathAmong inputs m position first these → IsPathAmong inputs m position second those
    → path_root m position first these ≡ path_root m position second those → first ≡ second

-- a law: without a clash the hash that leads from a position to the root of some hashes is the one
-- that stands there
abbrev pub LeafAgrees : Type 0
LeafAgrees = (inputs : List (List ℕ)) → HasNoClash inputs
    → (m position : ℕ) (hashes : List (List ℕ)) (hash : List ℕ) (siblings : List (List ℕ))
    → position < 2 ^ m → length hashes ≡ 2 ^ m → AreHashes hashes
    → AreAmong inputs (root_inputs m hashes) → IsPathAmong inputs m position hash siblings
    → root m hashes ≡ path_root m position hash siblings → hash ≡ slice_index_or hashes position []

-- a law: what is hashed on a tree's own path is hashed for the tree
abbrev pub OwnPathsAreWithin : Type 0
OwnPathsAreWithin = (leaves : List (List ℕ)) (leaf : ℕ) → leaf < length leaves
    → AreAmong (tree_inputs leaves)
    (path_inputs (height (length leaves)) leaf
    (slice_index_or leaves leaf []) (siblings_of leaves leaf))
