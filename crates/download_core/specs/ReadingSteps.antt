-- What the calls on the readers of a file do.
use Rattle.std.specs.Prelude.{◌≡◌, ◌⊎◌, ℕ, ◌+◌, ◌-◌, ◌<◌, ◌++◌, List, [], Contains, length}
use Rattle.std.specs.Prelude.{Option, Some, None, slice_get, true}
use Rattle.std.specs.Prelude.{count_by}
use Rattle.wire.specs.declared.message.Message.{Message}
use Rattle.request_record.specs.declared.requests.Request.{Request}
use Rattle.request_record.specs.Record.{outstanding_count, was_sent_again_in}
use Rattle.request_record.specs.Written.{kept}
use Rattle.download_shares.specs.Left.{FewAreLeft}
use Rattle.download_shares.specs.HoldingMoves.{Ticks}
use Rattle.download_shares.specs.Table.{IsHolding, NoneIsFree}
use Rattle.download_shares.specs.declared.holding.Holding.{Holding}
use Rattle.download_supply.specs.declared.wanted.Wanted.{Wanted}
use Rattle.download_file.specs.Asked.{IsOneOf, IsPlannedRead}
use Rattle.download_shares.specs.Known.{AreBegun}
use Rattle.download_shares.specs.Reads.{AddsReads, IsAnsweredBy, IsOutAt, IsReadAt}
use Rattle.download_file.specs.Answers.{IsRead, KeepsAnswers}
use Rattle.download_file.specs.Changes.{IsSameFile}
use Rattle.download_shares.specs.BeginningMoves.{BringsBytes, GoesOn, HearsNews, WaitsAt}
use Rattle.download_shares.specs.BeginningState.{BeginningsState, IsBegun}
use Rattle.download_shares.specs.declared.begun.Begun.{Begun}
use Rattle.download_shares.specs.declared.beginnings.News.{News}
use Rattle.download_shares.specs.declared.beginnings.News.TheVariants as news
use Rattle.download_segments.specs.State.{HandoutState}
use Rattle.download_segments.specs.declared.piece.Piece.{Piece}
use Rattle.download_file.specs.Making.{SomeWaits}
use Rattle.download_file.specs.State.{FileState, IsAside, IsLive, first_waiting, waiting_from}
use Rattle.download_file.specs.declared.reader.Waiting.{Waiting}
use Rattle.download_core.specs.Reading.{AreAwaited, AreBusy, AreLinked, AreReading}
use Rattle.download_core.specs.ReadingState.{ReadingState}

-- pieces are added to those that are ready
pub record AddsPieces (old new : HandoutState) : Type 0 where
  pub handed : new.handed ≡ old.handed
  pub more : List Piece
  pub ready : new.ready ≡ old.ready ++ more

-- a read of a share for the file is a part of its plan
abbrev pub IsReadFor : FileState → ℕ → ℕ → ℕ → ℕ → Type 0
IsReadFor f server share offset len = IsPlannedRead f offset len

-- More is asked, blamed and made, of the same file, and what was made of it stays proved. Each read
-- that was asked for is a part of the file's plan.
pub record Continues (s : BeginningsState) (r : ReadingState) (t : BeginningsState)
    (q : ReadingState) : Type 0 where
  pub goes : GoesOn s t
  pub same : IsSameFile r.file q.file
  pub pieces : AddsPieces r.file.handout q.file.handout
  pub answers : IsRead s.holdings.requests.entries r.file
      → IsRead t.holdings.requests.entries q.file
  pub reads : AddsReads (IsReadFor r.file) s.holdings.requests.entries
      t.holdings.requests.entries

-- answered requests stay, and each asks the same
pub record Grows (s t : BeginningsState) : Type 0 where
  pub stays : KeepsAnswers s.holdings.requests.entries t.holdings.requests.entries

-- it is the share of the holding at this position, at the same server
abbrev pub IsSamePair : BeginningsState → ℕ → Holding → Type 0
IsSamePair s holding h = (held : Holding) × IsHolding s.holdings.table holding held
    × (held.server ≡ h.server) × (held.share ≡ h.share)

-- the part is asked of the holding's share by the request at its position, which waits for its
-- answer
pub record IsAskedNow (entries : List Request) (h : Holding) (w : Waiting) : Type 0 where
  pub read : IsReadAt entries h w.position w.wanted.read.offset w.wanted.read.length
  pub out : IsOutAt entries w.position

-- A holding's share is asked for these parts, by one request after another. Nothing else changes.
pub record AsksParts (holding : ℕ) (wanted : List Wanted) (s t : BeginningsState) : Type 0 where
  pub known : AreBegun t
  pub table : t.holdings.table ≡ s.holdings.table
  pub begun : t.begun ≡ s.begun
  pub reads : (h : Holding) (i offset len : ℕ) → IsReadAt t.holdings.requests.entries h i offset len
      → IsReadAt s.holdings.requests.entries h i offset len
      ⊎ (IsSamePair s holding h × IsOneOf wanted offset len)
  pub count : length t.holdings.requests.entries
      ≡ length s.holdings.requests.entries + length wanted
  pub asked : (h : Holding) (w : Waiting) → IsHolding s.holdings.table holding h
      → Contains (waiting_from (length s.holdings.requests.entries) wanted) w
      → IsAskedNow t.holdings.requests.entries h w

-- ---- what happens while a file is read

-- a message brought this
pub record HasHeard (s : BeginningsState) (r : ReadingState) (told : News) : Type 0 where
  pub before : BeginningsState
  pub reading : AreReading before r
  pub from : ℕ
  pub message : Message
  pub now : ℕ
  pub hears : HearsNews from message now before s told
  pub bytes : BringsBytes s.holdings.requests.entries told
  pub known : AreBegun s

-- Bytes of the share of a holding came. All is as it was, but that its reader may have the answer
-- to the first part that waits, and that its header may be there.
pub record IsTold (but : Option ℕ) (s : BeginningsState) (r : ReadingState) (holding : ℕ)
    : Type 0 where
  pub begun : Begun
  pub there : IsBegun s holding begun
  pub linked : AreLinked s r
  pub awaits : AreAwaited begun.reader s r
  pub busy : AreBusy but s r

-- what is left to do, where the readers of shares that are gone are read no more
abbrev pub IsToTake : BeginningsState → ReadingState → News → Type 0
IsToTake s r (news.Beginning holding position) = IsTold (Some holding) s r holding
    × WaitsAt s holding position
    × ((bytes : List ℕ) × IsAnsweredBy s.holdings.requests.entries position bytes)
IsToTake s r (news.Bytes holding position) = IsTold None s r holding
IsToTake s r told = AreReading s r

-- a second passed
pub record HasTicked (s : BeginningsState) (r : ReadingState) : Type 0 where
  pub before : BeginningsState
  pub reading : AreReading before r
  pub now : ℕ
  pub ticks : Ticks now before.holdings s.holdings
  pub begun : s.begun ≡ before.begun
  pub known : AreBegun s

-- ---- how far a file is

-- how many holdings are left
abbrev pub left_count : List Holding → ℕ
left_count holdings = count_by (λ (h : Holding). h.left) holdings

-- what is still to be made, and may still be blamed
abbrev pub work : BeginningsState → ReadingState → ℕ
work s r = (r.file.handout.to - r.file.handout.reached) + left_count s.holdings.table.holdings

-- no more may be read: none may be chosen, and none is put aside
abbrev pub NoneIsLeft : BeginningsState → ReadingState → Type 0
NoneIsLeft s r = NoneIsFree s.holdings.table × (r.file.aside ≡ [])

-- Nothing more is made now: too few shares are read and no more may be, or something waits of a
-- reader.
abbrev pub IsStuck : BeginningsState → ReadingState → Type 0
IsStuck s r = ((length r.file.live < r.file.handout.geometry.needed) × NoneIsLeft s r)
    ⊎ SomeWaits r.file

-- ---- readers that are late

-- the request of the part that waits first of a reader was sent again
pub record IsLate (entries : List Request) (f : FileState) (reader : ℕ) : Type 0 where
  pub position : ℕ
  pub first : first_waiting f reader ≡ Some position
  pub again : was_sent_again_in (kept (slice_get entries position)) ≡ true

-- nothing waits of a reader that is put aside
pub record IsIdle (f : FileState) (reader : ℕ) : Type 0 where
  pub aside : IsAside f reader
  pub idle : first_waiting f reader ≡ None

-- no share may be read in the place of one that is late
pub record HasNoOther (s : BeginningsState) (f : FileState) : Type 0 where
  pub free : NoneIsFree s.holdings.table
  pub idle : (reader : ℕ) → ¬ IsIdle f reader

-- No reader that is read is late, or there is none to read in its place.
abbrev pub IsPressed : BeginningsState → FileState → Type 0
IsPressed s f = ((reader : ℕ) → IsLive f reader → ¬ IsLate s.holdings.requests.entries f reader)
    ⊎ HasNoOther s f

-- ---- how it goes on

-- No segment is made, and nothing is asked or blamed.
pub record IsStill (s : BeginningsState) (r : ReadingState) (t : BeginningsState)
    (q : ReadingState) : Type 0 where
  pub same : t ≡ s
  pub live : q.file.live ≡ r.file.live
  pub aside : q.file.aside ≡ r.file.aside
  pub readers : q.file.readers ≡ r.file.readers

-- Nothing is waited for, and fewer share numbers are left than are needed.
pub record IsAtEnd (s : BeginningsState) (r : ReadingState) : Type 0 where
  pub idle : outstanding_count s.holdings.requests.entries ≡ 0
  pub few : FewAreLeft r.file.handout.geometry.needed r.file.handout.geometry.total
      s.holdings.requests.entries s.holdings.blamed
