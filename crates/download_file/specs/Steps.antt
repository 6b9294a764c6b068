-- Words of private clauses: readers and groups of a list.
use Rattle.std.specs.Prelude.{◌≡◌, ◌≢◌, ◌⊎◌, ℕ, ◌<◌, ◌≤◌, List, [], ◌∷◌, ◌++◌}
use Rattle.std.specs.Prelude.{length, drop, map, Some, None, slice_get, slice_set}
use Rattle.std.specs.Prelude.{All, Contains, Bool, IsSome, is_some, true}
use Rattle.merkle.specs.Partial.{PartialState, known_at}
use Rattle.ueb.specs.Shape.{Contents}
use Rattle.request_record.specs.declared.requests.Request.{Request}
use Rattle.share_layout.specs.Geometry.{Geometry, segment_count}
use Rattle.share_layout.specs.Pieces.{block_length}
use Rattle.proved_parts.specs.Parts.{IsSegmentBy}
use Rattle.proved_parts.specs.declared.evidence.EvidencePart.{EvidencePart}
use Rattle.download_parts.specs.Plan.{IsNodePiece}
use Rattle.download_parts.specs.declared.part.NodePiece.{NodePiece}
use Rattle.download_parts.specs.declared.part.Part.{Part}
use Rattle.download_parts.specs.declared.part.Part.TheVariants.{CiphertextTree, Data}
use Rattle.download_parts.specs.Trees.{known_leaf}
use Rattle.download_supply.specs.Asking.{AsksNow, IsAsked, IsReadOf, IsWanted}
use Rattle.download_supply.specs.Asking.{IsWantedCiphertext}
use Rattle.download_supply.specs.Blocks.{IsHeld, IsReady}
use Rattle.download_supply.specs.Cursors.{cursor_at, passed, piece_passed}
use Rattle.download_supply.specs.Laws.{KnowsPiece}
use Rattle.download_supply.specs.Supply.{IsSupply, SupplyState, gives_from}
use Rattle.download_supply.specs.Taking.{IsDue, IsProved}
use Rattle.download_supply.specs.declared.wanted.Wanted.{Wanted}
use Rattle.download_segments.specs.State.{HandoutState, IsHandout}
use Rattle.download_segments.specs.State.{TreesGrow, with_trees}
use Rattle.download_segments.specs.GroupMaking.{nth_block}
use Rattle.download_segments.specs.GroupState.{GroupState, IsLast, new_group}
use Rattle.download_file.specs.State.{ReaderState, numbers_of, without}
use Rattle.download_file.specs.Answers.{HoldsAnswers, IsMade}
use Rattle.download_file.specs.Changes.{TreeStays}
use Rattle.download_file.specs.Right.{IsGroup, TellsRoot}
use Rattle.download_file.specs.declared.reader.Waiting.{Waiting}

-- each of the readers at these positions has the block of a segment, and knows its hash
abbrev pub AreReady : List ReaderState → List ℕ → ℕ → Type 0
AreReady readers positions number = (reader : ℕ) (r : ReaderState) → Contains positions reader
    → slice_get readers reader ≡ Some r → IsReady r.supply number

-- one of them has not, or does not
pub record IsNotReady (readers : List ReaderState) (positions : List ℕ) (number : ℕ) : Type 0 where
  pub position : ℕ
  pub among : Contains positions position
  pub r : ReaderState
  pub there : slice_get readers position ≡ Some r
  pub not : ¬ IsReady r.supply number

-- the reader at a position has the block of a segment, which has this length
pub record HasBlock (readers : List ReaderState) (number len position : ℕ) : Type 0 where
  pub r : ReaderState
  pub there : slice_get readers position ≡ Some r
  pub held : IsHeld r.supply number
  pub long : len ≡ block_length r.supply.geometry number

-- of so many readers from the first on each has its block among these
abbrev pub AreProved : List ReaderState → List ℕ → ℕ → List ℕ → ℕ → ℕ → Type 0
AreProved readers positions number joined len count = (k position : ℕ) (r : ReaderState) → k < count
    → slice_get positions k ≡ Some position → slice_get readers position ≡ Some r
    → IsProved r.supply number (nth_block joined len k)

-- the block of the reader at this position is another
pub record IsWrong (readers : List ReaderState) (positions : List ℕ) (number : ℕ)
    (joined : List ℕ) (len position : ℕ) : Type 0 where
  pub k : ℕ
  pub at : slice_get positions k ≡ Some position
  pub r : ReaderState
  pub there : slice_get readers position ≡ Some r
  pub not : ¬ IsProved r.supply number (nth_block joined len k)

-- the readers read shares of one file, and hold answers of this record
pub record AreOfFile (entries : List Request) (g : Geometry) (readers : List ReaderState)
    : Type 0 where
  pub supply : (position : ℕ) (r : ReaderState) → slice_get readers position ≡ Some r
      → IsSupply r.supply
  pub geometry : (position : ℕ) (r : ReaderState) → slice_get readers position ≡ Some r
      → r.supply.geometry ≡ g
  pub held : (position : ℕ) (r : ReaderState) → slice_get readers position ≡ Some r
      → HoldsAnswers entries r

-- the last group is of the readers at these positions: it was, or such a group is added
abbrev pub BeginsGroup : List GroupState → Geometry → List ReaderState → List ℕ → ℕ
    → List GroupState → Type 0
BeginsGroup old g readers positions number new =
    ((new ≡ old) × (group : GroupState) × IsLast old group × (group.readers ≡ positions))
    ⊎ (new ≡ old ++ new_group g positions (numbers_of readers positions) number ∷ [])

-- the reader where nothing waits of it, and where it gives the ciphertext tree
abbrev pub stopped : ReaderState → ReaderState
stopped r = record r { waiting = [] }

abbrev pub giving : ReaderState → List ℕ → ReaderState
giving r taken = record r { supply = gives_from r.supply taken }

-- the numbers of the parts
abbrev pub part_numbers : List EvidencePart → List ℕ
part_numbers parts = map (λ (p : EvidencePart). p.number) parts

-- each part is a segment by the extension block
abbrev pub AreSegmentsBy : Contents → List EvidencePart → Type 0
AreSegmentsBy u parts = All (λ (p : EvidencePart). IsSegmentBy u p.number p.segment p.path) parts

-- each segment of a group was made of blocks that the readers hold, by this record
pub record IsMadeGroup (entries : List Request) (h : HandoutState) (readers : List ReaderState)
    (group : GroupState) : Type 0 where
  pub right : IsGroup h readers group
  pub order : group.first ≤ group.end
  pub there : group.end ≤ segment_count h.geometry
  pub made : (number : ℕ) → group.first ≤ number → number < group.end
      → IsMade entries h readers group number

-- These parts are asked now: all that is wanted of the supply up to a segment, of the ciphertext
-- tree too where it gives that.
pub record Asks (old : SupplyState) (gives : Bool) (last : ℕ) (wanted : List Wanted)
    (new : SupplyState) : Type 0 where
  pub now : AsksNow old new wanted
  pub own : (part : Part) → IsWanted old last part → IsAsked new part
  pub ciphertext : gives ≡ true → (part : Part) → IsWantedCiphertext old last part
      → IsAsked new part

-- no piece of the ciphertext tree is asked
abbrev pub AsksNoTree : SupplyState → SupplyState → Type 0
AsksNoTree old new =
    (p : NodePiece) → IsAsked new (CiphertextTree p) → IsAsked old (CiphertextTree p)

-- the reader can give the ciphertext tree from these pieces on: its plan has them
abbrev pub CanGive : ReaderState → List ℕ → Type 0
CanGive r taken = (p : NodePiece) → p.index < cursor_at taken p.level
    → IsNodePiece r.supply.geometry r.supply.start r.supply.end p

-- The reader was asked for nothing of the ciphertext tree.
abbrev pub GaveNone : ReaderState → Type 0
GaveNone r = r.supply.asked.ciphertext_tree ≡ r.supply.given

-- It gives the ciphertext tree from now on: from these pieces on where it was asked for none of it,
-- and else from where it was.
abbrev pub Gives : ReaderState → List ℕ → ReaderState → Type 0
Gives old taken new = (GaveNone old × (new ≡ giving old taken)) ⊎ ((¬ GaveNone old) × (new ≡ old))

-- a reader of which nothing was asked yet; where it gives the ciphertext tree, it does from these
-- pieces on
pub record IsBegun (g : Geometry) (start first end server share : ℕ) (gives : Bool) (taken : List ℕ)
    (r : ReaderState) : Type 0 where
  pub server_is : r.server ≡ server
  pub share_is : r.share ≡ share
  pub waiting : r.waiting ≡ []
  pub right : IsSupply r.supply
  pub geometry : r.supply.geometry ≡ g
  pub start_is : r.supply.start ≡ start
  pub first_is : r.supply.first ≡ first
  pub end_is : r.supply.end ≡ end
  pub asked : r.supply.taken ≡ r.supply.asked
  pub tree : r.supply.tree ≡ None
  pub held : r.supply.held ≡ []
  pub from : gives ≡ true → r.supply.taken.ciphertext_tree ≡ taken
  pub behind : (level : ℕ)
      → cursor_at r.supply.taken.ciphertext_tree level ≤ cursor_at taken level
  pub none : (part : Part) → ¬ IsAsked r.supply part

-- The first of these readers gives the ciphertext tree from now on.
pub record FirstGives (old : List ReaderState) (live taken : List ℕ) (new : List ReaderState)
    : Type 0 where
  pub next : ℕ
  pub first : slice_get live 0 ≡ Some next
  pub r : ReaderState
  pub at : slice_get old next ≡ Some r
  pub s : ReaderState
  pub gives : Gives r taken s
  pub new_is : new ≡ slice_set old next s

-- so does the first of them, where there is one
abbrev pub GivesFirst : List ReaderState → List ℕ → List ℕ → List ReaderState → Type 0
GivesFirst old live taken new = ((live ≡ []) × (new ≡ old)) ⊎ FirstGives old live taken new

-- The reader at a position is not read any more. Where it gave the ciphertext tree, the first that
-- is left gives it, if there is one.
abbrev pub Leaves : List ReaderState → List ℕ → List ℕ → ℕ → List ReaderState → Type 0
Leaves old live taken reader new = ((slice_get live 0 ≢ Some reader) × (new ≡ old))
    ⊎ ((slice_get live 0 ≡ Some reader) × GivesFirst old (without reader live) taken new)

-- so it is, and nothing waits of it
pub record EndsReader (old : List ReaderState) (live : List ℕ) (taken : List ℕ) (reader : ℕ)
    (new : List ReaderState) : Type 0 where
  pub r : ReaderState
  pub there : slice_get old reader ≡ Some r
  pub leaves : Leaves (slice_set old reader (stopped r)) live taken reader new

-- The reader at a position is read, behind the others. Where it is alone it gives the ciphertext
-- tree.
abbrev pub Resumes : List ReaderState → List ℕ → List ℕ → ℕ → List ReaderState → Type 0
Resumes old live taken reader new =
    ((live ≢ []) × (new ≡ old))
    ⊎ ((live ≡ []) × GivesFirst old (reader ∷ []) taken new)

-- Where the part is a piece of the ciphertext tree, its nodes are known, and it is taken; or it was
-- taken before, of another reader.
abbrev pub PassesPart : Geometry → ℕ → ℕ → PartialState → Part → List ℕ → List ℕ → Type 0
PassesPart g a b tree (CiphertextTree p) taken new =
    ((p.index < cursor_at taken p.level) × (new ≡ taken))
    ⊎ ((cursor_at taken p.level ≤ p.index) × (new ≡ piece_passed taken p) × KnowsPiece g a b tree p)
PassesPart g a b tree part taken new = new ≡ taken

-- the answers that a supply holds, with this part at this position
abbrev pub held_with : List ℕ → Part → ℕ → List ℕ
held_with held (Data i) position = held ++ position ∷ []
held_with held part position = held

-- A reader of this file, in a download of the segments `a` to before `b`. The first part that waits
-- of it is the next to be taken.
pub record IsTaker (h : HandoutState) (a b : ℕ) (r : ReaderState) (w : Waiting) : Type 0 where
  pub right : IsHandout h
  pub supply : IsSupply r.supply
  pub geometry : r.supply.geometry ≡ h.geometry
  pub start : r.supply.start ≡ a
  pub end : r.supply.end ≡ b
  pub share : r.share < h.geometry.total
  pub root : TellsRoot h.trees.shares r.share r.supply.tree
  pub due : IsDue r.supply w.wanted.part
  pub read : IsReadOf r.supply w.wanted

-- The first part that waits of a reader is taken, of the answer at a position. What is known of the
-- trees stays known.
pub record TakesPart (h : HandoutState) (r : ReaderState) (taken : List ℕ) (a b : ℕ) (part : Part)
    (position : ℕ) (h' : HandoutState) (r' : ReaderState) (taken' : List ℕ) : Type 0 where
  pub handout : h' ≡ with_trees h h'.trees
  pub right : IsHandout h'
  pub grow : TreesGrow h.trees h'.trees
  pub stays : (number : ℕ) → is_some (known_at h.trees.ciphertext number) ≡ true
      → is_some (known_at h'.trees.ciphertext number) ≡ true
  pub passes : PassesPart h.geometry a b h'.trees.ciphertext part taken taken'
  pub server : r'.server ≡ r.server
  pub share : r'.share ≡ r.share
  pub waiting : r'.waiting ≡ drop 1 r.waiting
  pub supply : IsSupply r'.supply
  pub supply_is : r'.supply ≡ record r.supply {
    taken = passed r.supply.taken part;
    tree = r'.supply.tree;
    held = held_with r.supply.held part position;
  }
  pub tree : TreeStays r.supply.tree r'.supply.tree
  pub root : TellsRoot h'.trees.shares r.share r'.supply.tree

-- why no segment is made of these readers' blocks
pub data LacksSome (h : HandoutState) (readers : List ReaderState) (live : List ℕ) (number : ℕ)
    : Type 0 where
  lacks_readers : length live ≢ h.geometry.needed → LacksSome h readers live number
  lacks_hash : known_leaf h.trees.ciphertext number ≡ None → LacksSome h readers live number
  lacks_block : IsNotReady readers live number → LacksSome h readers live number

-- all that it is made of is there
pub record HasAll (h : HandoutState) (readers : List ReaderState) (live : List ℕ) (number : ℕ)
    : Type 0 where
  pub enough : length live ≡ h.geometry.needed
  pub known : IsSome (known_leaf h.trees.ciphertext number)
  pub ready : AreReady readers live number
