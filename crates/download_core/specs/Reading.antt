-- The readers of a file read shares that servers hold.
use Rattle.std.specs.Prelude.{◌≡◌, ◌≢◌, ◌⊎◌, ℕ, List, Option, Some, None, length, slice_get}
use Rattle.std.specs.Prelude.{false, true, Contains}
use Rattle.request_record.specs.declared.requests.Request.{Request}
use Rattle.download_shares.specs.HoldingState.{NumberState}
use Rattle.download_shares.specs.Table.{IsHolding, IsNumber}
use Rattle.download_shares.specs.declared.holding.Holding.{Holding}
use Rattle.download_shares.specs.Known.{AreBegun}
use Rattle.download_shares.specs.Opening.{IsOut, IsTaken}
use Rattle.download_shares.specs.Reads.{IsAnsweredBy, IsBeside, IsOutAt, IsReadAt}
use Rattle.download_shares.specs.BeginningState.{BeginningsState, IsBegun}
use Rattle.download_shares.specs.declared.begun.Begun.{Begun}
use Rattle.download_file.specs.Answers.{IsRead}
use Rattle.download_file.specs.Asked.{HasAsked}
use Rattle.download_file.specs.Right.{IsFile}
use Rattle.download_file.specs.State.{FileState, IsHeard, copies, copy, first_waiting, waiting_at}
use Rattle.download_file.specs.declared.reader.Waiting.{Waiting}
use Rattle.download_core.specs.ReadingState.{ReadingState}

-- the reader reads the share of this holding
abbrev pub IsOf : ReadingState → ℕ → ℕ → Type 0
IsOf r reader holding = slice_get r.holdings reader ≡ Some holding

-- the holding knows its reader, which reads its share at its server
pub record IsReaderOf (s : BeginningsState) (r : ReadingState) (reader holding : ℕ) : Type 0 where
  pub held : Holding
  pub is : IsHolding s.holdings.table holding held
  pub begun : Begun
  pub there : IsBegun s holding begun
  pub of_reader : begun.reader ≡ Some reader
  pub reads : slice_get (copies r.file) reader ≡ Some (copy held.server held.share)

-- the share that a reader reads is left, and is the one of its number that is read
pub record IsReadNow (s : BeginningsState) (r : ReadingState) (reader : ℕ) : Type 0 where
  pub holding : ℕ
  pub of : IsOf r reader holding
  pub held : Holding
  pub is : IsHolding s.holdings.table holding held
  pub left : held.left ≡ true
  pub taken : IsTaken s.holdings.table holding held

-- the share that a reader reads is not left any more
pub record IsGone (s : BeginningsState) (r : ReadingState) (reader : ℕ) : Type 0 where
  pub holding : ℕ
  pub of : IsOf r reader holding
  pub held : Holding
  pub is : IsHolding s.holdings.table holding held
  pub gone : held.left ≡ false

-- bytes of a holding's share lie beside all plans, or its reader asked for them
abbrev pub IsOfReader : FileState → Begun → ℕ → ℕ → Type 0
IsOfReader f b offset len = IsBeside f.handout.geometry offset len
    ⊎ ((reader : ℕ) × (b.reader ≡ Some reader) × HasAsked f reader offset len)

-- What was asked of each holding that is left was read of its beginning, or asked by its reader,
-- which is read or put aside. The answers that the readers took are in the record.
pub record AreKept (s : BeginningsState) (r : ReadingState) : Type 0 where
  pub known : AreBegun s
  pub right : IsFile r.file
  pub total : length s.holdings.table.numbers ≡ r.file.handout.geometry.total
  pub linked : length r.holdings ≡ length r.file.readers
  pub forth : (reader holding : ℕ) → IsOf r reader holding → IsReaderOf s r reader holding
  pub back : (holding reader : ℕ) (b : Begun) → IsBegun s holding b → b.reader ≡ Some reader
      → IsOf r reader holding
  pub alive : (holding reader : ℕ) (h : Holding) (b : Begun) → IsHolding s.holdings.table holding h
      → IsBegun s holding b → b.reader ≡ Some reader → h.left ≡ true → IsHeard r.file reader
  pub reads : (holding i offset len : ℕ) (h : Holding) (b : Begun)
      → IsHolding s.holdings.table holding h → IsBegun s holding b → h.left ≡ true
      → IsReadAt s.holdings.requests.entries h i offset len → IsOfReader r.file b offset len
  pub answers : IsRead s.holdings.requests.entries r.file

-- so it is, and each reader that is read or put aside reads a share that is left
pub record AreLinked (s : BeginningsState) (r : ReadingState) : Type 0 where
  pub kept : AreKept s r
  pub live : (reader : ℕ) → IsHeard r.file reader → IsReadNow s r reader

-- ---- what is waited for

-- a reader that is read or put aside, and the share that it reads, which is left
pub record IsReading (s : BeginningsState) (r : ReadingState) (reader : ℕ) (h : Holding)
    : Type 0 where
  pub live : IsHeard r.file reader
  pub holding : ℕ
  pub of : IsOf r reader holding
  pub is : IsHolding s.holdings.table holding h
  pub left : h.left ≡ true

-- the part was asked of the holding's share by the request at its position, which waits for its
-- answer or was answered with bytes
pub record IsAskedOf (entries : List Request) (h : Holding) (w : Waiting) : Type 0 where
  pub read : IsReadAt entries h w.position w.wanted.read.offset w.wanted.read.length
  pub state : IsOutAt entries w.position
      ⊎ ((bytes : List ℕ) × IsAnsweredBy entries w.position bytes)

-- What waits of each reader was asked of its share, and the answer to the first of it is not there
-- yet, but for one reader.
pub record AreAwaited (but : Option ℕ) (s : BeginningsState) (r : ReadingState) : Type 0 where
  pub asked : (reader : ℕ) (h : Holding) (w : Waiting) → IsReading s r reader h
      → Contains (waiting_at r.file reader) w → IsAskedOf s.holdings.requests.entries h w
  pub first : (reader position : ℕ) (h : Holding) → IsReading s r reader h → but ≢ Some reader
      → first_waiting r.file reader ≡ Some position → IsOutAt s.holdings.requests.entries position

-- A share that is left and is not to be chosen yet waits for the answer to the read of its header,
-- but for one. A share that is taken has a reader.
pub record AreBusy (but : Option ℕ) (s : BeginningsState) (r : ReadingState) : Type 0 where
  pub suspended : (holding : ℕ) (h : Holding) → IsHolding s.holdings.table holding h
      → h.left ≡ true → h.suspended ≡ true → but ≢ Some holding → IsOut s holding
  pub taken : (share holding : ℕ) (n : NumberState) → IsNumber s.holdings.table share n
      → n.reading ≡ Some holding → (reader : ℕ) × IsOf r reader holding

-- All of this. The answer to the first part that waits of one reader may be there.
pub record AreReadingBut (but : Option ℕ) (s : BeginningsState) (r : ReadingState)
    : Type 0 where
  pub linked : AreLinked s r
  pub awaits : AreAwaited but s r
  pub busy : AreBusy None s r

abbrev pub AreReading : BeginningsState → ReadingState → Type 0
AreReading s r = AreReadingBut None s r
