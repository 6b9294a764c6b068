-- Trees of which some nodes are known. Nodes are named by their numbers, row by row from the root,
-- which is 0.
use Rattle.std.specs.Prelude.{◌≡◌, ℕ, zero, suc, ◌+◌, ◌-◌, ◌*◌, ◌/◌, ◌^◌, ◌<◌, ◌≤◌, ◌==◌}
use Rattle.std.specs.Prelude.{◌&&◌, nat_lt, nat_le, true, false, List, [], length, map}
use Rattle.std.specs.Prelude.{filter, is_some, unwrap_or, not, Bool, Option, Some, None}
use Rattle.std.specs.Prelude.{if◌then◌else◌, slice_get, slice_index_or}
use Rattle.std.specs.List.{range_with_len}
use Rattle.tagged_hash.specs.TaggedHash.{node_hash}
use Rattle.merkle.specs.Path.{LeadsBy}
use Rattle.merkle.specs.Tree.{height, max_leaves, needed_numbers, node, node_count}
use Rattle.merkle.specs.Tree.{node_number, padded_to}
use Rattle.merkle.specs.Tree.{sibling_number, tree_root}

-- the number of the node above another
abbrev pub parent : ℕ → ℕ
parent number = (number - 1) / 2

-- the row of the node of a number, and its position in that row
abbrev pub row_of : ℕ → ℕ
row_of number = height (number + 2) - 1

abbrev pub position_in_row : ℕ → ℕ
position_in_row number = number + 1 - 2 ^ row_of number

-- the number of a leaf's node
abbrev pub leaf_number : ℕ → ℕ → ℕ
leaf_number leaf_count leaf = node_number (height leaf_count) leaf

-- all leaves below the node of this number are empty leaves
abbrev pub is_padding : ℕ → ℕ → Bool
is_padding leaf_count number =
    nat_lt number (node_count leaf_count)
    && nat_le leaf_count (position_in_row number * 2 ^ (height leaf_count - row_of number))

-- the hash of such a node: in each tree of so many leaves it is the same
abbrev pub padding_hash : ℕ → ℕ → List ℕ
padding_hash leaf_count number =
    let m = height leaf_count in node m (padded_to (2 ^ m) []) (row_of number)
    (position_in_row number)

-- what is known of each node
abbrev pub Known : Type 0
Known = ℕ → Option (List ℕ)

-- what is known without being told: the nodes over empty leaves alone
abbrev pub padding : ℕ → Known
padding leaf_count number =
    if is_padding leaf_count number then Some (padding_hash leaf_count number) else None

-- what was told, and else what is known without being told
abbrev pub told_or : Option (List ℕ) → Option (List ℕ) → Option (List ℕ)
told_or (Some hash) other = Some hash
told_or None other = other

-- what is known where these nodes were told
abbrev pub known_by : Known → Known → Known
known_by padding told number = told_or (told number) (padding number)

-- a tree of so many leaves with this root, and what is known of each of its nodes, row by row
pub record PartialState : Type 0 where
  pub root : List ℕ
  pub leaf_count : ℕ
  pub nodes : List (Option (List ℕ))

-- what is known of the node of a number
abbrev pub known_at : PartialState → Known
known_at p number = slice_index_or p.nodes number None

-- what is known of each node of a tree of so many leaves
abbrev pub all_known : ℕ → Known → List (Option (List ℕ))
all_known leaf_count known = map known (range_with_len 0 (node_count leaf_count))

-- only the root was told
abbrev pub only_root : List ℕ → Known
only_root root number = if number == 0 then Some root else None

-- a tree with this root over so many leaves, of which these nodes were told
abbrev pub partial_state : List ℕ → ℕ → Known → PartialState
partial_state root leaf_count told = record {
  root = root;
  leaf_count = leaf_count;
  nodes = all_known leaf_count (known_by (padding leaf_count) told);
}

-- what is known at first: the root, and the nodes over empty leaves alone
abbrev pub starting : List ℕ → ℕ → PartialState
starting root leaf_count = partial_state root leaf_count (only_root root)

-- both children of the parent of this node are known, and so is the parent, which is the hash of
-- the two
pub record IsJoined (known : Known) (number : ℕ) : Type 0 where
  pub left : List ℕ
  pub right : List ℕ
  pub knows_left : known (2 * parent number + 1) ≡ Some left
  pub knows_right : known (2 * parent number + 2) ≡ Some right
  pub knows_parent : known (parent number) ≡ Some (node_hash left right)

-- What holds of each tree of which some nodes are known: the root is known, nothing beside the tree
-- is, the nodes over empty leaves are, and each node but the root and those is known together with
-- its sibling and its parent.
pub record IsPartial (p : PartialState) : Type 0 where
  pub some : 0 < p.leaf_count
  pub few : p.leaf_count ≤ max_leaves
  pub root : known_at p 0 ≡ Some p.root
  pub inside : (number : ℕ) (hash : List ℕ)
      → known_at p number ≡ Some hash → number < node_count p.leaf_count
  pub empty : (number : ℕ) → is_padding p.leaf_count number ≡ true
      → known_at p number ≡ Some (padding_hash p.leaf_count number)
  pub joined : (number : ℕ) (hash : List ℕ) → 0 < number → is_padding p.leaf_count number ≡ false
      → known_at p number ≡ Some hash → IsJoined (known_at p) number

-- ---- nodes that are offered

-- the number of the node so many rows above another; above the root there is the root alone
abbrev pub ancestor : ℕ → ℕ → ℕ
ancestor zero number = number
ancestor (suc rows) number = parent (ancestor rows number)

-- the node of this number is offered, or above one that is
pub record IsTouched (offers : List (ℕ × List ℕ)) (number : ℕ) : Type 0 where
  pub position : ℕ
  pub below : ℕ
  pub hash : List ℕ
  pub rows : ℕ
  pub offered : slice_get offers position ≡ Some (below, hash)
  pub above : ancestor rows below ≡ number

-- What is known once these nodes are taken: what was known, the nodes offered and those above them,
-- each together with its sibling, and the parent is the hash of the two; nothing else. There is at
-- most one such `new`, and none where an offered node is not one of the tree, differs from a known
-- or another offered one, or has no sibling that is known, offered or above an offered one (so too
-- for the nodes above it), or where a known or offered parent is not the hash of its children.
pub record IsExtended (leaf_count : ℕ) (old : Known) (offers : List (ℕ × List ℕ)) (new : Known)
    : Type 0 where
  pub inside : (k number : ℕ) (hash : List ℕ) → slice_get offers k ≡ Some (number, hash)
      → number < node_count leaf_count
  pub kept : (number : ℕ) (hash : List ℕ) → old number ≡ Some hash → new number ≡ Some hash
  pub offered : (k number : ℕ) (hash : List ℕ) → slice_get offers k ≡ Some (number, hash)
      → new number ≡ Some hash
  pub joined : (number : ℕ) → IsTouched offers number → 0 < number → IsJoined new number
  pub others : (number : ℕ) → ¬ IsTouched offers number → new number ≡ old number

-- the tree with these nodes taken
pub record Takes (old : PartialState) (offers : List (ℕ × List ℕ)) (new : PartialState)
    : Type 0 where
  pub root : new.root ≡ old.root
  pub leaf_count : new.leaf_count ≡ old.leaf_count
  pub known : IsExtended old.leaf_count (known_at old) offers (known_at new)

-- the nodes can't be taken
abbrev pub IsNotConsistent : PartialState → List (ℕ × List ℕ) → Type 0
IsNotConsistent p offers = (new : Known) → ¬ IsExtended p.leaf_count (known_at p) offers new

-- the numbers of the nodes that lead from a leaf to the root and are not known yet, rising
abbrev pub missing_numbers : PartialState → ℕ → List ℕ
missing_numbers p leaf =
    filter (λ number. not (is_some (known_at p number))) (needed_numbers (height p.leaf_count) leaf)

-- the siblings of a leaf and of the nodes above it, from the leaf upward, as far as they are known
abbrev pub known_siblings : PartialState → ℕ → List (List ℕ)
known_siblings p leaf = map
    (λ i. unwrap_or (known_at p (sibling_number (height p.leaf_count) leaf i)) [])
    (range_with_len 0 (height p.leaf_count))

-- a law: a leaf that is known leads to the root, by siblings that are known
abbrev pub KnownLeavesLead : Type 0
KnownLeavesLead = (p : PartialState) (leaf : ℕ) (hash : List ℕ) → IsPartial p
    → leaf < p.leaf_count → known_at p (leaf_number p.leaf_count leaf) ≡ Some hash
    → LeadsBy p.leaf_count p.root leaf hash (known_siblings p leaf)

-- a law: where all leaves are known, the root is that of the tree over them
abbrev pub KnownLeavesGiveTheRoot : Type 0
KnownLeavesGiveTheRoot = (p : PartialState) (leaves : List (List ℕ)) → IsPartial p
    → length leaves ≡ p.leaf_count
    → ((leaf : ℕ) → leaf < length leaves
    → known_at p (leaf_number p.leaf_count leaf) ≡ Some (slice_index_or leaves leaf []))
    → tree_root leaves ≡ p.root
