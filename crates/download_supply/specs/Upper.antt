-- The pieces of a tree are asked and taken level by level, so that what proves one comes first.
use Rattle.std.specs.Prelude.{◌≡◌, ℕ, ◌-◌, ◌/◌, ◌<◌, List, [], ◌∷◌, min, is_some, true}
use Rattle.merkle.specs.Partial.{PartialState, known_at}
use Rattle.merkle.specs.Tree.{node_number}
use Rattle.share_layout.specs.Geometry.{Geometry}
use Rattle.download_parts.specs.PlanLaws.{piece_over}
use Rattle.download_parts.specs.Level.{group_size}
use Rattle.download_parts.specs.Plan.{IsAmong}
use Rattle.download_parts.specs.declared.part.Nodes.{Nodes}
use Rattle.download_parts.specs.declared.part.Part.{Part}
use Rattle.download_parts.specs.declared.part.Part.TheVariants.{ShareHashes, BlockTree}
use Rattle.download_parts.specs.declared.part.Part.TheVariants.{CiphertextTree, Data}
use Rattle.download_supply.specs.Cursors.{IsPassed, passed}
use Rattle.download_supply.specs.declared.cursors.Cursors.{Cursors}

-- Where the part is a piece of a tree behind the first level, the piece over it is passed. The plan
-- begins with the segment `a`.
abbrev pub HasOverPassed : Geometry → ℕ → Cursors → Part → Type 0
HasOverPassed g a c ShareHashes = Unit {0}
HasOverPassed g a c (BlockTree p) = 0 < p.level → IsPassed c (BlockTree (piece_over g a p))
HasOverPassed g a c (CiphertextTree p) =
    0 < p.level → IsPassed c (CiphertextTree (piece_over g a p))
HasOverPassed g a c (Data i) = Unit {0}

-- so it is of each of these parts once those before it are passed; `first` tells where the plan of
-- a part begins
abbrev pub UpperComeFirst : Geometry → (Part → ℕ) → Cursors → List Part → Type 0
UpperComeFirst g first c [] = Unit {0}
UpperComeFirst g first c (part ∷ parts) =
    HasOverPassed g (first part) c part × UpperComeFirst g first (passed c part) parts

-- What proves some nodes of a row is known: above each the node 7 rows above it, or the root where
-- that is nearer.
abbrev pub KnowsTops : PartialState → Nodes → Type 0
KnowsTops p n = (position : ℕ) → IsAmong n position
    → is_some (known_at p (node_number (n.row - min n.row 7) (position / group_size n.row))) ≡ true
