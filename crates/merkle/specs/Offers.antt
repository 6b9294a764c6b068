-- Nodes of a tree that are offered where other nodes of it are known.
use Rattle.std.specs.Prelude.{◌≡◌, ◌⊎◌, ℕ, ◌+◌, ◌*◌, ◌<◌, List, [], Some, length, slice_get}
use Rattle.std.specs.Prelude.{slice_index_or}
use Rattle.merkle.specs.Inputs.{AreHashes}
use Rattle.merkle.specs.OneTree.{KnowsTree}
use Rattle.merkle.specs.Partial.{IsNotConsistent, IsTouched, PartialState, known_at, parent}
use Rattle.merkle.specs.Tree.{node_count, tree_nodes}

-- the node is known, or offered, or above one that is offered
abbrev pub IsThere : PartialState → List (ℕ × List ℕ) → ℕ → Type 0
IsThere p offers number =
    IsTouched offers number ⊎ ((hash : List ℕ) × (known_at p number ≡ Some hash))

-- of each node but the root that is offered or above one, both children of its parent are there
abbrev pub AreWithSiblings : PartialState → List (ℕ × List ℕ) → Type 0
AreWithSiblings p offers = (number : ℕ) → IsTouched offers number → 0 < number
    → IsThere p offers (2 * parent number + 1) × IsThere p offers (2 * parent number + 2)

-- what is offered are nodes of the tree over these leaves
abbrev pub AreOfTree : List (List ℕ) → List (ℕ × List ℕ) → Type 0
AreOfTree leaves offers = (k number : ℕ) (hash : List ℕ)
    → slice_get offers k ≡ Some (number, hash)
    → (number < node_count (length leaves))
    × (hash ≡ slice_index_or (tree_nodes leaves) number [])

-- a law: nodes of a tree, each with its sibling, are not refused where what is known are nodes of
-- that tree
abbrev pub OwnNodesAreConsistent : Type 0
OwnNodesAreConsistent = (p : PartialState) (leaves : List (List ℕ)) (offers : List (ℕ × List ℕ))
    → p.leaf_count ≡ length leaves → AreHashes leaves → KnowsTree p leaves
    → AreOfTree leaves offers → AreWithSiblings p offers → ¬ IsNotConsistent p offers
