-- How the calls change a file.
use Rattle.std.specs.Prelude.{◌≡◌, ◌≢◌, ◌++◌, ℕ, List, Option, Some, slice_get}
use Rattle.request_record.specs.declared.requests.Request.{Request}
use Rattle.merkle.specs.Partial.{PartialState}
use Rattle.download_parts.specs.Trees.{KnowsAllOf}
use Rattle.download_supply.specs.Supply.{SupplyState}
use Rattle.download_segments.specs.State.{TreesGrow, with_trees}
use Rattle.download_segments.specs.declared.piece.Piece.{Piece}
use Rattle.download_file.specs.State.{FileState, ReaderState, waiting_at}
use Rattle.download_file.specs.Answers.{IsGivenBy, IsMadeSegment, IsRead}
use Rattle.download_file.specs.Asked.{IsAskedUp}

-- the pieces that it gave are given still
abbrev pub StaysGiven : FileState → FileState → Type 0
StaysGiven old new =
    (entries : List Request) (p : Piece) → IsGivenBy entries old p → IsGivenBy entries new p

-- the segments that it made are made still
abbrev pub StaysMade : FileState → FileState → Type 0
StaysMade old new = (entries : List Request) (number : ℕ) (segment : List ℕ)
    → IsMadeSegment entries old number segment → IsMadeSegment entries new number segment

-- a block tree that is there stays, and what is known of it stays known
abbrev pub TreeStays : Option PartialState → Option PartialState → Type 0
TreeStays old new =
    (p : PartialState) → old ≡ Some p → (q : PartialState) × (new ≡ Some q) × KnowsAllOf p q

-- A supply that goes on reads the same parts of the same share. What is known of its block tree
-- stays known, and what it holds it holds still.
pub record GoesOn (s t : SupplyState) : Type 0 where
  pub geometry : t.geometry ≡ s.geometry
  pub start : t.start ≡ s.start
  pub first : t.first ≡ s.first
  pub end : t.end ≡ s.end
  pub tree : TreeStays s.tree t.tree
  pub more : List ℕ
  pub held : t.held ≡ s.held ++ more

-- at the same position a reader of the same copy goes on
pub record GoesOnAt (readers : List ReaderState) (position : ℕ) (r : ReaderState) : Type 0 where
  pub now : ReaderState
  pub there : slice_get readers position ≡ Some now
  pub server : now.server ≡ r.server
  pub share : now.share ≡ r.share
  pub supply : GoesOn r.supply now.supply

-- so does each reader
abbrev pub ReadersGoOn : List ReaderState → List ReaderState → Type 0
ReadersGoOn old new =
    (position : ℕ) (r : ReaderState) → slice_get old position ≡ Some r → GoesOnAt new position r

-- It is the same download of the same file: what it made and gave stays, what is known of the trees
-- stays known, and each reader goes on.
pub record IsSameFile (old new : FileState) : Type 0 where
  pub key : new.handout.key ≡ old.handout.key
  pub ueb : new.handout.ueb ≡ old.handout.ueb
  pub geometry : new.handout.geometry ≡ old.handout.geometry
  pub to : new.handout.to ≡ old.handout.to
  pub first : new.first ≡ old.first
  pub end : new.end ≡ old.end
  pub trees : TreesGrow old.handout.trees new.handout.trees
  pub readers : ReadersGoOn old.readers new.readers
  pub made : StaysMade old new
  pub given : StaysGiven old new

-- no more was handed out than the trees tell
pub record HandsNothing (old new : FileState) : Type 0 where
  pub handout : new.handout ≡ with_trees old.handout new.handout.trees
  pub first : new.first ≡ old.first
  pub end : new.end ≡ old.end

-- what the record says of it stays true
abbrev pub StaysRead : FileState → FileState → Type 0
StaysRead old new = (entries : List Request) → IsRead entries old → IsRead entries new

-- all that is wanted of a reader stays asked
abbrev pub StaysAskedUp : FileState → FileState → ℕ → Type 0
StaysAskedUp old new reader = IsAskedUp old reader → IsAskedUp new reader

-- what waits of the other readers is as it was
abbrev pub OthersWait : FileState → ℕ → FileState → Type 0
OthersWait old reader new = (other : ℕ) → other ≢ reader
    → waiting_at new other ≡ waiting_at old other
