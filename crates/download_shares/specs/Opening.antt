-- How shares are begun to be read, before and after an extension block is accepted.
use Rattle.std.specs.Prelude.{◌≡◌, ◌≢◌, ◌⊎◌, ℕ, ◌<◌, ◌≤◌, length, Some, None, true, false}
use Rattle.share_layout.specs.Geometry.{Geometry}
use Rattle.download_shares.specs.HoldingState.{NumberState, TableState}
use Rattle.download_shares.specs.Table.{IsHolding, IsNumber}
use Rattle.download_shares.specs.declared.holding.Holding.{Holding}
use Rattle.download_shares.specs.Reads.{IsBeginning, IsBeside, IsOutAt, IsReadAt}
use Rattle.download_shares.specs.BeginningState.{BeginningsState, IsBegun}
use Rattle.download_shares.specs.declared.begun.Begun.{Begun}
use Rattle.download_shares.specs.declared.beginnings.News.{News}
use Rattle.download_shares.specs.declared.beginnings.News.TheVariants as news

-- the holding is the one of its number that is read
pub record IsTaken (t : TableState) (position : ℕ) (h : Holding) : Type 0 where
  pub number : NumberState
  pub there : IsNumber t h.share number
  pub reading : number.reading ≡ Some position

-- the next read of the share's beginning waits for its answer
pub record IsOut (s : BeginningsState) (position : ℕ) : Type 0 where
  pub begun : Begun
  pub is : IsBegun s position begun
  pub request : ℕ
  pub waiting : begun.waiting ≡ Some request
  pub out : IsOutAt s.holdings.requests.entries request

-- ---- before

-- of this holding's share nothing was read but its beginning, and not that before it was taken
pub record IsOpening (s : BeginningsState) (position : ℕ) (h : Holding) (b : Begun) : Type 0 where
  pub reads : (i offset len : ℕ) → IsReadAt s.holdings.requests.entries h i offset len
      → IsBeginning b.opening offset len
  pub taken : b.opening ≢ None → (h.left ≡ false) ⊎ IsTaken s.holdings.table position h
  pub unread : b.reader ≡ None
  pub choosable : h.suspended ≡ false

-- So it is of each. Each holding that is read waits for the answer to its next read, but for these.
pub record AreOpening (but : ℕ → Type 0) (s : BeginningsState) : Type 0 where
  pub each : (position : ℕ) (h : Holding) (b : Begun) → IsHolding s.holdings.table position h
      → IsBegun s position b → IsOpening s position h b
  pub works : (share position : ℕ) (n : NumberState) → IsNumber s.holdings.table share n
      → n.reading ≡ Some position → ¬ but position → IsOut s position

abbrev pub nobody : ℕ → Type 0
nobody position = ⊥

-- the holding to whose next read an answer came
abbrev pub IsToldOf : News → ℕ → Type 0
IsToldOf (news.Beginning holding at) position = position ≡ holding
IsToldOf told position = ⊥

-- ---- after

-- What was read of this holding's share lies beside the plans of a file with this geometry. Where
-- it is not to be chosen yet, its header is still out.
pub record IsCompared (g : Geometry) (s : BeginningsState) (position : ℕ) (h : Holding) (b : Begun)
    : Type 0 where
  pub beside : h.left ≡ true → (i offset len : ℕ)
      → IsReadAt s.holdings.requests.entries h i offset len → IsBeside g offset len
  pub unread : b.reader ≡ None
  pub out : h.left ≡ true → h.suspended ≡ true → IsOut s position

-- so it is of each, and none is read
pub record AreCompared (g : Geometry) (s : BeginningsState) : Type 0 where
  pub each : (position : ℕ) (h : Holding) (b : Begun) → IsHolding s.holdings.table position h
      → IsBegun s position b → IsCompared g s position h b
  pub unread : (share : ℕ) (n : NumberState) → IsNumber s.holdings.table share n
      → n.reading ≡ None

-- the answer to its next read was the extension block, and nothing more is read of its beginning
pub record IsFound (s : BeginningsState) (holding : ℕ) : Type 0 where
  pub inside : holding < length s.begun
  pub others : AreOpening (λ other. other ≡ holding) s
  pub quiet : (b : Begun) → IsBegun s holding b → b.waiting ≡ None

-- the holdings before this position are compared, and those from it on not yet
pub record AreComparedUpTo (g : Geometry) (found end : ℕ) (s : BeginningsState) : Type 0 where
  pub compared : (position : ℕ) (h : Holding) (b : Begun) → IsHolding s.holdings.table position h
      → IsBegun s position b → position < end → IsCompared g s position h b
  pub opening : (position : ℕ) (h : Holding) (b : Begun) → IsHolding s.holdings.table position h
      → IsBegun s position b → end ≤ position → IsOpening s position h b
  pub works : (share position : ℕ) (n : NumberState) → IsNumber s.holdings.table share n
      → n.reading ≡ Some position → (end ≤ position) × ((position ≡ found) ⊎ IsOut s position)
  pub quiet : (b : Begun) → IsBegun s found b → b.waiting ≡ None
