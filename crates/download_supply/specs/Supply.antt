-- A supply: one share at one server.
use Rattle.std.specs.Prelude.{◌≡◌, ℕ, ◌≤◌, List, [], length, Option, Some, None, is_some}
use Rattle.std.specs.Prelude.{IfSome, true}
use Rattle.merkle.specs.Partial.{PartialState, known_at}
use Rattle.merkle.specs.Tree.{node_number}
use Rattle.share_layout.specs.Geometry.{Geometry, segment_count}
use Rattle.download_parts.specs.Plan.{IsAmong, IsPart, nodes_of}
use Rattle.download_parts.specs.Range.{IsRange}
use Rattle.download_parts.specs.declared.part.NodePiece.{NodePiece}
use Rattle.download_parts.specs.declared.part.Nodes.{Nodes}
use Rattle.download_parts.specs.declared.part.Part.{Part}
use Rattle.download_parts.specs.declared.part.Part.TheVariants.{BlockTree, CiphertextTree}
use Rattle.download_parts.specs.Trees.{IsBlockTree}
use Rattle.download_supply.specs.Cursors.{IsPassed, cursor_at, no_parts}
use Rattle.download_supply.specs.declared.cursors.Cursors.{Cursors}

-- A supply of the blocks of the segments `first` to before `end`, in a download whose first
-- segment is `start`: what was asked of it, and what was taken. It gives the ciphertext tree from
-- the pieces `given` on, of each level.
pub record SupplyState : Type 0 where
  pub geometry : Geometry
  pub start : ℕ
  pub first : ℕ
  pub end : ℕ
  pub given : List ℕ
  pub asked : Cursors
  pub taken : Cursors
  -- the block tree, once the share hashes are taken
  pub tree : Option PartialState
  -- the positions of the answers that are the pieces of the data, in order
  pub held : List ℕ

-- the value of a supply with these fields
abbrev pub supply_state : Geometry → ℕ → ℕ → ℕ → List ℕ → Cursors → Cursors → Option PartialState
    → List ℕ → SupplyState
supply_state geometry start first end given asked taken tree held = record {
  geometry = geometry;
  start = start;
  first = first;
  end = end;
  given = given;
  asked = asked;
  taken = taken;
  tree = tree;
  held = held;
}

-- The first segment of the plan that a part is of. The ciphertext tree is read by the plan of the
-- whole download, all else by the supply's own.
abbrev pub first_of : SupplyState → Part → ℕ
first_of s (CiphertextTree p) = s.start
first_of s part = s.first

-- it is one of the parts that the supply is read in
abbrev pub IsPartOf : SupplyState → Part → Type 0
IsPartOf s part = IsPart s.geometry (first_of s part) s.end part

-- a supply of which nothing was asked
abbrev pub new_supply : Geometry → ℕ → ℕ → ℕ → SupplyState
new_supply g start first end =
    supply_state g start first end no_parts.ciphertext_tree no_parts no_parts None []

-- the supply where it gives the ciphertext tree from these pieces on
abbrev pub gives_from : SupplyState → List ℕ → SupplyState
gives_from s levels = record s {
  given = levels;
  asked = record s.asked { ciphertext_tree = levels };
  taken = record s.taken { ciphertext_tree = levels };
}

-- there is a cursor for each of three levels
pub record HaveLevels (c : Cursors) : Type 0 where
  pub block_tree : length c.block_tree ≡ 3
  pub ciphertext_tree : length c.ciphertext_tree ≡ 3

-- the tree knows each of these nodes
pub record KnowsNodes (s : SupplyState) (n : Nodes) : Type 0 where
  pub tree : PartialState
  pub is : s.tree ≡ Some tree
  pub known : (position : ℕ) → IsAmong n position
      → is_some (known_at tree (node_number n.row position)) ≡ true

-- what holds of each supply
pub record IsSupply (s : SupplyState) : Type 0 where
  pub range : IsRange s.geometry s.first s.end
  pub begins : s.start ≤ s.first
  -- what was asked is of its plans, and what was taken was asked
  pub asked_levels : HaveLevels s.asked
  pub taken_levels : HaveLevels s.taken
  pub parts : (part : Part) → IsPassed s.asked part → IsPartOf s part
  pub in_order : (part : Part) → IsPassed s.taken part → IsPassed s.asked part
  pub given : (level : ℕ)
      → cursor_at s.given level ≤ cursor_at s.taken.ciphertext_tree level
  -- the block tree is there once the share hashes are taken, and leads to its root by hashes of 32
  -- bytes each
  pub tree : is_some s.tree ≡ s.taken.share_hashes
  pub leads : IfSome s.tree (λ tree. IsBlockTree tree (segment_count s.geometry))
  -- it knows the nodes that were taken
  pub knows : (piece : NodePiece) → IsPassed s.taken (BlockTree piece)
      → KnowsNodes s (nodes_of s.geometry s.first s.end piece)
  -- an answer is held for each piece of the data that was taken
  pub held : length s.held ≡ s.taken.data_piece
