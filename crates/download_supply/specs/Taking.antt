-- What is taken of a supply.
use Rattle.std.specs.Prelude.{◌≡◌, ℕ, List, [], ◌∷◌, ◌++◌, Option, Some, option_and_then}
use Rattle.tagged_hash.specs.TaggedHash.{tagged_hash}
use Rattle.tagged_hash.specs.declared.tag.Tag.TheVariants.{Block}
use Rattle.merkle.specs.Partial.{IsNotConsistent, PartialState, Takes}
use Rattle.download_parts.specs.Plan.{nodes_of}
use Rattle.download_parts.specs.declared.part.NodePiece.{NodePiece}
use Rattle.download_parts.specs.declared.part.Part.{Part}
use Rattle.download_parts.specs.declared.part.Part.TheVariants.{BlockTree, Data}
use Rattle.download_parts.specs.Offers.{nodes_offered}
use Rattle.download_parts.specs.Trees.{known_leaf}
use Rattle.download_supply.specs.Cursors.{IsNext, IsPassed, passed}
use Rattle.download_supply.specs.Supply.{SupplyState}

-- the part is the next to be taken: it was asked, and those before it were taken
pub record IsDue (s : SupplyState) (part : Part) : Type 0 where
  pub next : IsNext s.taken part
  pub asked : IsPassed s.asked part

-- the supply with this part taken
abbrev pub with_taken : SupplyState → Part → SupplyState
with_taken s part = record s { taken = passed s.taken part }

-- the supply that holds one answer more, for the next piece of the data
abbrev pub holds_more : SupplyState → ℕ → SupplyState
holds_more s position =
    record (with_taken s (Data s.taken.data_piece)) { held = s.held ++ position ∷ [] }

-- the nodes of a piece of the block tree are taken, and nothing else is changed
pub record TakesPiece (old : SupplyState) (p : NodePiece) (bytes : List ℕ) (new : SupplyState)
    : Type 0 where
  pub before : PartialState
  pub after : PartialState
  pub was : old.tree ≡ Some before
  pub is : new ≡ record (with_taken old (BlockTree p)) { tree = Some after }
  pub takes : Takes before (nodes_offered (nodes_of old.geometry old.first old.end p) bytes) after

-- the nodes of a piece do not go with what is known of the block tree
pub record RefutesPiece (s : SupplyState) (p : NodePiece) (bytes : List ℕ) : Type 0 where
  pub tree : PartialState
  pub is : s.tree ≡ Some tree
  pub refuted : IsNotConsistent tree
      (nodes_offered (nodes_of s.geometry s.first s.end p) bytes)

-- what is known of the hash of a segment's block
abbrev pub known_hash : SupplyState → ℕ → Option (List ℕ)
known_hash s segment = option_and_then (λ tree. known_leaf tree segment) s.tree

-- the hash that is known of a segment's block is the one of these bytes
abbrev pub IsProved : SupplyState → ℕ → List ℕ → Type 0
IsProved s segment block = known_hash s segment ≡ Some (tagged_hash Block block)
