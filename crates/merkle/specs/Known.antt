-- What is hashed for the nodes that are known of a tree.
use Rattle.std.specs.Prelude.{◌≡◌, ℕ, ◌+◌, ◌*◌, ◌<◌, List, Some, length, Contains}
use Rattle.merkle.specs.Inputs.{node_input, path_inputs}
use Rattle.merkle.specs.Partial.{IsPartial, PartialState, known_at, known_siblings, leaf_number}
use Rattle.merkle.specs.Tree.{height}

-- each node that is known has the 32 bytes of a hash
abbrev pub KnowsHashes : PartialState → Type 0
KnowsHashes p = (number : ℕ) (hash : List ℕ) → known_at p number ≡ Some hash → length hash ≡ 32

-- this is the hash input of a node whose two children are known
pub record IsKnownInput (p : PartialState) (input : List ℕ) : Type 0 where
  pub number : ℕ
  pub left : List ℕ
  pub right : List ℕ
  pub knows_left : known_at p (2 * number + 1) ≡ Some left
  pub knows_right : known_at p (2 * number + 2) ≡ Some right
  pub is : input ≡ node_input left right

-- a law: all that is hashed on the path of a leaf that is known are such inputs
abbrev pub KnownPathsAreKnown : Type 0
KnownPathsAreKnown = (p : PartialState) (leaf : ℕ) (hash input : List ℕ) → IsPartial p
    → leaf < p.leaf_count → known_at p (leaf_number p.leaf_count leaf) ≡ Some hash
    → Contains (path_inputs (height p.leaf_count) leaf hash (known_siblings p leaf)) input
    → IsKnownInput p input
