-- Words of the private clauses about a partial tree: what it keeps, how that grows, its padding.
use Rattle.std.specs.Prelude.{◌≡◌, ◌≢◌, ◌⊎◌, ℕ, ◌+◌, ◌-◌, ◌*◌, ◌/◌, ◌^◌, ◌<◌, List, [], ◌∷◌}
use Rattle.std.specs.Prelude.{◌++◌, length, map, Option, Some, None, slice_index_or}
use Rattle.std.specs.List.{range_with_len}
use Rattle.tagged_hash.specs.TaggedHash.{empty_leaf_hash, node_hash}
use Rattle.merkle.specs.Partial.{Known, known_by, parent}
use Rattle.merkle.specs.Tree.{height, node, node_count, padded_to}

-- both children of the parent of this node are known, and the parent was told
pub record IsTold (padding told : Known) (number : ℕ) : Type 0 where
  pub left : List ℕ
  pub right : List ℕ
  pub knows_left : known_by padding told (2 * parent number + 1) ≡ Some left
  pub knows_right : known_by padding told (2 * parent number + 2) ≡ Some right
  pub told_parent : told (parent number) ≡ Some (node_hash left right)

-- What was told of a tree: the root, and nodes together with their siblings and parents.
pub record IsKept (leaf_count : ℕ) (padding : Known) (root : List ℕ) (told : Known) : Type 0 where
  pub first : told 0 ≡ Some root
  pub inside : (number : ℕ) (hash : List ℕ) → told number ≡ Some hash
      → number < node_count leaf_count
  pub empty : (number : ℕ) (hash x : List ℕ) → padding number ≡ Some x
      → told number ≡ Some hash → x ≡ hash
  pub joined : (number : ℕ) (hash : List ℕ) → 0 < number → told number ≡ Some hash
      → IsTold padding told number

-- one node more was told, which was not known otherwise
pub record Adds (padding old : Known) (number : ℕ) (hash : List ℕ) (new : Known) : Type 0 where
  pub here : new number ≡ Some hash
  pub apart : (other : ℕ) → other ≢ number → new other ≡ old other
  pub before : (old number ≡ Some hash) ⊎ (old number ≡ None)
  pub empty : old number ≡ None → (x : List ℕ) → padding number ≡ Some x → x ≡ hash

-- a node can't be told, as it is known otherwise
pub record IsOther (padding old : Known) (number : ℕ) (hash : List ℕ) : Type 0 where
  pub held : List ℕ
  pub knows : known_by padding old number ≡ Some held
  pub differs : ¬ (held ≡ hash)

-- this number is in the list
abbrev pub IsListed : List ℕ → ℕ → Type 0
IsListed numbers number = (k : ℕ) × (k < length numbers) × (slice_index_or numbers k 0 ≡ number)

-- nodes of these numbers were added, at most, and none of them was told before
pub record IsGrown (old : Known) (added : List ℕ) (new : Known) : Type 0 where
  pub fresh : (number : ℕ) → IsListed added number → old number ≡ None
  pub rest : (number : ℕ) → (new number ≡ old number) ⊎ IsListed added number

-- at most the node of this number was added, which was not told before
pub data GrowsBy (old : Known) (added : List ℕ) (number : ℕ) (new : Known) (added' : List ℕ)
    : Type 0 where
  grows_not : ((other : ℕ) → new other ≡ old other) → added' ≡ added
      → GrowsBy old added number new added'
  grows_one : old number ≡ None → ((other : ℕ) → other ≢ number → new other ≡ old other)
      → added' ≡ added ++ number ∷ [] → GrowsBy old added number new added'

-- the node above one was added, which is the hash of its two children
pub record Joins (padding old : Known) (number : ℕ) (new : Known) : Type 0 where
  pub left : List ℕ
  pub right : List ℕ
  pub knows_left : known_by padding old (2 * parent number + 1) ≡ Some left
  pub knows_right : known_by padding old (2 * parent number + 2) ≡ Some right
  pub adds : Adds padding old (parent number) (node_hash left right) new

-- the node above one can't be told
pub data IsUnjoinable (padding old : Known) (number : ℕ) : Type 0 where
  lacks_left : known_by padding old (2 * parent number + 1) ≡ None
      → IsUnjoinable padding old number
  lacks_right : known_by padding old (2 * parent number + 2) ≡ None
      → IsUnjoinable padding old number
  has_other : (left right : List ℕ) → known_by padding old (2 * parent number + 1) ≡ Some left
      → known_by padding old (2 * parent number + 2) ≡ Some right
      → IsOther padding old (parent number) (node_hash left right) → IsUnjoinable padding old number

-- so many empty leaves, from this one on
unfoldable pub empty_leaves : ℕ → ℕ → List (List ℕ)
empty_leaves first count = map empty_leaf_hash (range_with_len first count)

-- the node over empty leaves alone at a position of a row of a tree of so many leaves
abbrev pub empty_node : ℕ → ℕ → ℕ → List ℕ
empty_node leaf_count row position =
    let m = height leaf_count in node m (padded_to (2 ^ m) []) row position

-- These are nodes over empty leaves alone: each that is there is the one behind the last that has a
-- leaf below it, as many rows above the leaves as is its position here.
abbrev pub AreBeside : ℕ → List (Option (List ℕ)) → Type 0
AreBeside leaf_count beside =
    (rows : ℕ) (hash : List ℕ) → slice_index_or beside rows None ≡ Some hash
    → hash ≡ empty_node leaf_count (height leaf_count - rows) ((leaf_count - 1) / 2 ^ rows + 1)
