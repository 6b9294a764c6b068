-- Laws of supplies.
use Rattle.std.specs.Prelude.{◌≡◌, ◌⊎◌, ℕ, ◌+◌, ◌-◌, ◌*◌, ◌<◌, ◌≤◌, List, ◌∷◌, ◌++◌, length}
use Rattle.std.specs.Prelude.{[], is_some, Some, slice_index_or, true}
use Rattle.merkle.specs.Partial.{IsPartial, PartialState, Takes, known_at}
use Rattle.merkle.specs.Tree.{node_number}
use Rattle.share_layout.specs.Geometry.{Geometry, segment_count}
use Rattle.share_layout.specs.Pieces.{block_length}
use Rattle.download_parts.specs.PlanLaws.{AreApart, piece_over}
use Rattle.download_parts.specs.Plan.{IsAmong, IsNodePiece, IsPart, length_of, nodes_of}
use Rattle.download_parts.specs.Plan.{offset_of}
use Rattle.download_parts.specs.Range.{IsRange}
use Rattle.download_parts.specs.declared.part.NodePiece.{NodePiece}
use Rattle.download_parts.specs.declared.part.Nodes.{Nodes}
use Rattle.download_parts.specs.declared.part.Part.{Part}
use Rattle.download_parts.specs.declared.part.Part.TheVariants.{BlockTree, CiphertextTree, Data}
use Rattle.download_parts.specs.Offers.{nodes_offered}
use Rattle.download_parts.specs.Trees.{LeadTo, known_leaf}
use Rattle.download_supply.specs.Asking.{IsAsked, IsWanted, IsWithin}
use Rattle.download_supply.specs.Blocks.{IsReady, block_end, block_first, joined_block}
use Rattle.download_supply.specs.Cursors.{IsPassed, LeadOn}
use Rattle.download_supply.specs.Supply.{IsPartOf, IsSupply, SupplyState, first_of}
use Rattle.download_supply.specs.Supply.{gives_from}
use Rattle.download_supply.specs.Taking.{IsDue}
use Rattle.download_supply.specs.Upper.{HasOverPassed, KnowsTops, UpperComeFirst}
use Rattle.download_supply.specs.declared.cursors.Cursors.{Cursors}

-- a law: two parts that a supply is read in are one, or they have no byte in common
abbrev pub SupplyPartsAreApart : Type 0
SupplyPartsAreApart = (s : SupplyState) (p q : Part) → IsSupply s → IsPartOf s p → IsPartOf s q
    → (p ≡ q) ⊎ AreApart
    (offset_of s.geometry (first_of s p) s.end p) (length_of s.geometry (first_of s p) s.end p)
    (offset_of s.geometry (first_of s q) s.end q) (length_of s.geometry (first_of s q) s.end q)

-- a law: where parts lead from what was taken to what was asked, the first of them is due
abbrev pub FirstIsDue : Type 0
FirstIsDue = (s : SupplyState) (part : Part) (parts : List Part)
    → LeadOn s.taken (part ∷ parts) s.asked → IsDue s part

-- a law: once all that is wanted up to a segment is taken, the segment is ready
abbrev pub TakenIsReady : Type 0
TakenIsReady = (s : SupplyState) (segment : ℕ) → IsSupply s → IsWithin s segment
    → ((part : Part) → IsWanted s segment part → IsPassed s.taken part) → IsReady s segment

-- a law: nodes of a row are known once they are taken
abbrev pub TakenNodesAreKnown : Type 0
TakenNodesAreKnown = (n : Nodes) (bytes : List ℕ) (old new : PartialState)
    → length bytes ≡ 32 * n.count → Takes old (nodes_offered n bytes) new
    → (position : ℕ) → IsAmong n position → is_some (known_at new (node_number n.row position))
    ≡ true

-- the tree knows the nodes of a piece of the plan for the segments `a` to before `b`
abbrev pub KnowsPiece : Geometry → ℕ → ℕ → PartialState → NodePiece → Type 0
KnowsPiece g a b tree p = (position : ℕ) → IsAmong (nodes_of g a b p) position
    → is_some (known_at tree (node_number (nodes_of g a b p).row position)) ≡ true

-- a law: a tree that knows the pieces that are wanted up to a segment knows the segment's leaf
abbrev pub LeavesAreKnown : Type 0
LeavesAreKnown = (g : Geometry) (a b segment : ℕ) (tree : PartialState) → IsRange g a b
    → a ≤ segment → segment < b → LeadTo tree tree.root (segment_count g)
    → ((p : NodePiece) → IsNodePiece g a (segment + 1) p → KnowsPiece g a b tree p)
    → is_some (known_leaf tree segment) ≡ true

-- a law: the block that is joined of pieces, each of its length, has the block's length
abbrev pub JoinedHasLength : Type 0
JoinedHasLength = (g : Geometry) (a b segment : ℕ) (pieces : List (List ℕ)) → IsRange g a b
    → a ≤ segment → segment < b
    → length pieces ≡ block_end g a segment - block_first g a segment
    → ((k : ℕ) → k < length pieces → length (slice_index_or pieces k [])
    ≡ length_of g a b (Data (block_first g a segment + k)))
    → length (joined_block g a segment pieces) ≡ block_length g segment

-- a law: parts that wait to be taken, and those that are asked then, lead on together
abbrev pub LeadOnTogether : Type 0
LeadOnTogether = (from between to : Cursors) (waiting parts : List Part)
    → LeadOn from waiting between → LeadOn between parts to → LeadOn from (waiting ++ parts) to

-- a law: parts that wait to be taken lead on where the supply begins to give the ciphertext tree,
-- of which nothing was asked
abbrev pub LeadOnGiving : Type 0
LeadOnGiving = (s : SupplyState) (levels : List ℕ) (waiting : List Part) → IsSupply s
    → ((p : NodePiece) → ¬ IsAsked s (CiphertextTree p))
    → LeadOn s.taken waiting s.asked
    → LeadOn (gives_from s levels).taken waiting (gives_from s levels).asked

-- a law: each part of a plan is one of each longer plan, at its offset, and has its bytes there
abbrev pub LongerPlansHoldMore : Type 0
LongerPlansHoldMore = (g : Geometry) (a b c : ℕ) (part : Part) → b ≤ c → IsPart g a b part
    → IsPart g a c part × (offset_of g a c part ≡ offset_of g a b part)
    × (length_of g a b part ≤ length_of g a c part)

-- a law: so do parts of which each comes after the piece over it
abbrev pub UpperFirstTogether : Type 0
UpperFirstTogether = (g : Geometry) (first : Part → ℕ) (from between : Cursors)
    (waiting parts : List Part) → LeadOn from waiting between → UpperComeFirst g first from waiting
    → UpperComeFirst g first between parts → UpperComeFirst g first from (waiting ++ parts)

abbrev pub UpperFirstGiving : Type 0
UpperFirstGiving = (s : SupplyState) (levels : List ℕ) (waiting : List Part) → IsSupply s
    → ((p : NodePiece) → ¬ IsAsked s (CiphertextTree p)) → LeadOn s.taken waiting s.asked
    → UpperComeFirst s.geometry (first_of s) s.taken waiting
    → UpperComeFirst s.geometry (first_of s) (gives_from s levels).taken waiting

-- a law: what proves a piece of a tree is known where the piece over it is, and by the root alone
-- where there is none
abbrev pub OverProves : Type 0
OverProves = (g : Geometry) (a b : ℕ) (p : NodePiece) (t : PartialState) → IsRange g a b
    → IsNodePiece g a b p → IsPartial t → (0 < p.level → KnowsPiece g a b t (piece_over g a p))
    → KnowsTops t (nodes_of g a b p)

-- a law: what proves a piece of the block tree that is due is known, where the piece over it is
-- taken
abbrev pub DueIsProved : Type 0
DueIsProved = (s : SupplyState) (p : NodePiece) (t : PartialState) → IsSupply s
    → IsDue s (BlockTree p) → HasOverPassed s.geometry s.first s.taken (BlockTree p)
    → s.tree ≡ Some t → KnowsTops t (nodes_of s.geometry s.first s.end p)
