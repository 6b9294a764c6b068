-- What holds of each file that is read.
use Rattle.std.specs.Prelude.{◌≡◌, ◌≢◌, ℕ, ◌+◌, ◌-◌, ◌/◌, ◌<◌, ◌≤◌, List, [], ◌∷◌, length}
use Rattle.std.specs.Prelude.{Option, Some, IfSome, All, Contains, unwrap_or}
use Rattle.merkle.specs.Partial.{PartialState}
use Rattle.download_parts.specs.Plan.{IsNodePiece}
use Rattle.download_parts.specs.Range.{IsRange}
use Rattle.download_parts.specs.declared.part.NodePiece.{NodePiece}
use Rattle.download_parts.specs.Trees.{known_leaf}
use Rattle.download_supply.specs.Asking.{IsReadOf}
use Rattle.download_supply.specs.Cursors.{LeadOn, cursor_at}
use Rattle.download_supply.specs.Laws.{KnowsPiece}
use Rattle.download_supply.specs.Supply.{IsSupply, first_of}
use Rattle.download_supply.specs.Upper.{UpperComeFirst}
use Rattle.download_segments.specs.Decoding.{IsDecoding}
use Rattle.download_segments.specs.Handout.{next_segment}
use Rattle.download_segments.specs.State.{HandoutState, IsHandout}
use Rattle.download_segments.specs.GroupState.{GroupState}
use Rattle.download_file.specs.State.{FileState, IsAside, IsHeard, IsLive, IsReader, ReaderState}
use Rattle.download_file.specs.State.{numbers_of, waiting_parts}

-- the share tree tells the root of a share's block tree, once that is there
abbrev pub TellsRoot : PartialState → ℕ → Option PartialState → Type 0
TellsRoot shares share tree = IfSome tree (λ t. known_leaf shares share ≡ Some t.root)

-- It reads one share of this file, by the plan of the download, from a segment on that is not
-- behind the next. The root of its block tree is the one that the file's share tree tells.
pub record IsReaderOf (f : FileState) (r : ReaderState) : Type 0 where
  pub supply : IsSupply r.supply
  pub geometry : r.supply.geometry ≡ f.handout.geometry
  pub start : r.supply.start ≡ f.first
  pub end : r.supply.end ≡ f.end
  pub begun : (number : ℕ) → next_segment f.handout ≡ Some number → r.supply.first ≤ number
  pub share : r.share < f.handout.geometry.total
  pub root : TellsRoot f.handout.trees.shares r.share r.supply.tree

-- each is among them once
abbrev pub AreDistinct : List ℕ → Type 0
AreDistinct [] = Unit {0}
AreDistinct (position ∷ positions) = (¬ Contains positions position) × AreDistinct positions

-- the pieces of trees that wait of a reader come each after the piece over it
abbrev pub WaitsByLevels : ReaderState → Type 0
WaitsByLevels r =
    UpperComeFirst r.supply.geometry (first_of r.supply) r.supply.taken (waiting_parts r.waiting)

-- The readers that are read, at most as many as are needed, and those that are put aside: they are
-- of different shares. The parts that wait of each lead from what was taken of it to what was
-- asked.
pub record AreLive (f : FileState) : Type 0 where
  pub once : AreDistinct f.live
  pub apart : (position : ℕ) → IsLive f position → ¬ IsAside f position
  pub there : All (λ position. position < length f.readers) f.live
  pub asides : All (λ position. position < length f.readers) f.aside
  pub few : length f.live ≤ f.handout.geometry.needed
  pub different : (i j : ℕ) (r s : ReaderState) → IsHeard f i → IsHeard f j → i ≢ j
      → IsReader f i r → IsReader f j s → r.share ≢ s.share
  pub waits : (position : ℕ) (r : ReaderState) → IsHeard f position → IsReader f position r
      → LeadOn r.supply.taken (waiting_parts r.waiting) r.supply.asked
  pub upper : (position : ℕ) (r : ReaderState) → IsHeard f position → IsReader f position r
      → WaitsByLevels r
  pub reads : (position : ℕ) (r : ReaderState) → IsHeard f position → IsReader f position r
      → All (λ w. IsReadOf r.supply w.wanted) r.waiting

-- The pieces of the ciphertext tree that were taken are known. Of no reader more of it was taken.
pub record GivesTree (f : FileState) : Type 0 where
  pub levels : length f.taken ≡ 3
  pub pieces : (p : NodePiece) → p.index < cursor_at f.taken p.level
      → IsNodePiece f.handout.geometry f.first f.end p
  pub known : (p : NodePiece) → p.index < cursor_at f.taken p.level
      → KnowsPiece f.handout.geometry f.first f.end f.handout.trees.ciphertext p
  pub behind : (reader level : ℕ) (r : ReaderState) → IsHeard f reader → IsReader f reader r
      → cursor_at r.supply.taken.ciphertext_tree level ≤ cursor_at f.taken level

-- the number behind that of the last segment that was made
abbrev pub made_end : FileState → ℕ
made_end f = unwrap_or (next_segment f.handout) f.end

-- the groups follow one another, from a segment to before another
abbrev pub AreConsecutive : ℕ → List GroupState → ℕ → Type 0
AreConsecutive from [] end = from ≡ end
AreConsecutive from (group ∷ groups) end =
    (group.first ≡ from) × (group.first ≤ group.end) × AreConsecutive group.end groups end

-- a group of this file
pub record IsGroup (h : HandoutState) (readers : List ReaderState) (group : GroupState)
    : Type 0 where
  pub geometry : group.decoding.geometry ≡ h.geometry
  pub decoding : IsDecoding group.decoding
  pub there : All (λ position. position < length readers) group.readers
  pub numbers : group.decoding.numbers ≡ numbers_of readers group.readers

pub record IsFile (f : FileState) : Type 0 where
  pub handout : IsHandout f.handout
  pub range : IsRange f.handout.geometry f.first f.end
  pub last : f.end ≡ (f.handout.to - 1) / f.handout.geometry.segment_size + 1
  pub next : (number : ℕ) → next_segment f.handout ≡ Some number
      → (f.first ≤ number) × (number < f.end)
  pub readers : (reader : ℕ) (r : ReaderState) → IsReader f reader r → IsReaderOf f r
  pub live : AreLive f
  pub ciphertext : GivesTree f
  pub groups : All (IsGroup f.handout f.readers) f.groups
  pub in_order : AreConsecutive f.first f.groups (made_end f)
