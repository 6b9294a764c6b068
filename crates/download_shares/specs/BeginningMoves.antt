-- What the calls on the beginnings of shares do.
use Rattle.std.specs.Prelude.{◌≡◌, ◌⊎◌, ℕ, ◌≤◌, List, ◌++◌, Some, None, false}
use Rattle.std.specs.Prelude.{length, replicate, slice_get, slice_set}
use Rattle.cap_text.specs.Cap.{VerifyCapValue}
use Rattle.share_verify.specs.CapBlock.{IsUebFor, geometry_by}
use Rattle.share_verify.specs.declared.check.Check.{Check}
use Rattle.share_reading.specs.Opening.{next_length, next_offset}
use Rattle.share_reading.specs.declared.block.Opened.{Opened}
use Rattle.share_reading.specs.declared.opening.Opening.{Opening}
use Rattle.wire.specs.declared.message.Body.TheVariants.{Data}
use Rattle.wire.specs.declared.message.Message.{Message}
use Rattle.request_record.specs.Record.{asked_all}
use Rattle.request_record.specs.declared.requests.Asked.{Asked}
use Rattle.request_record.specs.declared.requests.Asked.TheVariants.{Reading}
use Rattle.request_record.specs.declared.requests.Outcome.TheVariants.{Answered}
use Rattle.request_record.specs.declared.requests.Request.{Request}
use Rattle.download_shares.specs.HoldingMoves as holdings
use Rattle.download_shares.specs.HoldingState.{HoldingsState}
use Rattle.download_shares.specs.Table.{IsHolding, Suspends, TakesUp}
use Rattle.download_shares.specs.declared.holding.Blame.{Blame}
use Rattle.download_shares.specs.declared.holding.Holding.{Holding}
use Rattle.download_shares.specs.declared.holdings.Heard.{Heard}
use Rattle.download_shares.specs.declared.holdings.Heard.TheVariants as heard
use Rattle.download_shares.specs.Reads.{IsAnsweredBy}
use Rattle.download_shares.specs.BeginningState.{BeginningsState, IsBegun, unbegun}
use Rattle.download_shares.specs.declared.begun.Begun.{Begun}
use Rattle.download_shares.specs.declared.beginnings.News.{News}
use Rattle.download_shares.specs.declared.beginnings.News.TheVariants as news

-- more is asked and blamed
pub record GoesOn (old new : BeginningsState) : Type 0 where
  pub asks : List (ℕ × Asked)
  pub requests : new.holdings.requests ≡ asked_all asks old.holdings.requests
  pub more : List Blame
  pub blamed : new.holdings.blamed ≡ old.holdings.blamed ++ more

-- as many share numbers count
abbrev pub CountsAsMany : BeginningsState → BeginningsState → Type 0
CountsAsMany old new = length new.holdings.table.numbers ≡ length old.holdings.table.numbers

-- the opening whose answer the holding waits for, at this position
pub record Awaits (s : BeginningsState) (holding position : ℕ) (opening : Opening) : Type 0 where
  pub held : Holding
  pub is : IsHolding s.holdings.table holding held
  pub begun : Begun
  pub there : IsBegun s holding begun
  pub of_opening : begun.opening ≡ Some opening
  pub waiting : begun.waiting ≡ Some position

-- The answer to the request at this position, which asked for a share's bytes, is the extension
-- block of the cap's file.
pub record IsBlockAt (cap : VerifyCapValue) (entries : List Request) (position : ℕ) (o : Opened)
    : Type 0 where
  pub request : Request
  pub there : slice_get entries position ≡ Some request
  pub share : ℕ
  pub offset : ℕ
  pub len : ℕ
  pub asked : request.asked ≡ Reading share offset len
  pub text : List ℕ
  pub answer : request.outcome ≡ Answered (Data text)
  pub whole : length text ≡ len
  pub block : IsUebFor cap text o.ueb
  pub geometry : o.geometry ≡ geometry_by o.ueb

-- a holding's share is asked for the next bytes of an opening
pub record AsksNext (holding : ℕ) (opening : Opening) (old new : BeginningsState) : Type 0 where
  pub begun : Begun
  pub there : IsBegun old holding begun
  pub asks : holdings.Asks holding (next_offset opening) (next_length opening)
      old.holdings new.holdings
  pub is : new.begun ≡ slice_set old.begun holding (record begun {
    opening = Some opening;
    waiting = Some (length old.holdings.requests.entries);
  })

-- it waits for no answer any more
abbrev pub rested : Begun → Begun
rested b = record b { waiting = None }

-- the answer that a holding's beginning waits for is taken
pub record Rests (holding : ℕ) (old new : BeginningsState) : Type 0 where
  pub begun : Begun
  pub there : IsBegun old holding begun
  pub is : new ≡ record old { begun = slice_set old.begun holding (rested begun) }

-- The holding is blamed, or it may be chosen. Where it is not left, nothing changes.
abbrev pub Settles : ℕ → HoldingsState → HoldingsState → Type 0
Settles holding old new = ((h : Holding) × IsHolding old.table holding h × (h.left ≡ false)
    × (new ≡ old))
    ⊎ ((check : Check) × holdings.Blames holding check old new)
    ⊎ (Suspends false holding old.table new.table × (new ≡ record old { table = new.table }))

-- the holding is not left
abbrev pub IsGone : ℕ → BeginningsState → Type 0
IsGone holding s = (h : Holding) → IsHolding s.holdings.table holding h → h.left ≡ false

-- what an answer brings to a share's beginning, where its header is compared
pub record Compares (holding : ℕ) (old new : BeginningsState) : Type 0 where
  pub rested_first : (between : BeginningsState) × Rests holding old between
  pub begun : new.begun ≡ rested_first.0.begun
  pub settles : Settles holding old.holdings new.holdings

-- a holding is read by this reader from now on
pub record IsReaderOf (holding reader : ℕ) (old new : BeginningsState) : Type 0 where
  pub begun : Begun
  pub there : IsBegun old holding begun
  pub is : new.begun ≡ slice_set old.begun holding (record begun { reader = Some reader })
  pub takes : TakesUp holding old.holdings.table new.holdings.table
  pub holdings : new.holdings ≡ record old.holdings { table = new.holdings.table }

-- ---- what a message brings

-- the holding's beginning waits for the answer to the request at this position
abbrev pub WaitsAt : BeginningsState → ℕ → ℕ → Type 0
WaitsAt s holding position = (b : Begun) × IsBegun s holding b × (b.waiting ≡ Some position)

-- what is told of it
abbrev pub IsNewsOf : BeginningsState → Heard → News → Type 0
IsNewsOf s heard.Nothing told = told ≡ news.Nothing
IsNewsOf s heard.Held told = told ≡ news.Nothing
IsNewsOf s (heard.Gone holding) told = told ≡ news.Gone holding
IsNewsOf s (heard.Bytes holding position) told =
    ((told ≡ news.Beginning holding position) × WaitsAt s holding position)
    ⊎ ((told ≡ news.Bytes holding position) × ¬ WaitsAt s holding position)

pub record HearsNews (from : ℕ) (m : Message) (now : ℕ) (old new : BeginningsState) (told : News)
    : Type 0 where
  pub heard : Heard
  pub hears : holdings.Hears from m now old.holdings new.holdings heard
  pub count : ℕ
  pub begun : new.begun ≡ old.begun ++ replicate count unbegun
  pub tells : IsNewsOf new heard told

-- the bytes that it brings are there
abbrev pub BringsBytes : List Request → News → Type 0
BringsBytes entries (news.Beginning holding position) =
    (bytes : List ℕ) × IsAnsweredBy entries position bytes
BringsBytes entries (news.Bytes holding position) =
    (bytes : List ℕ) × IsAnsweredBy entries position bytes
BringsBytes entries told = Unit {0}

-- more that are not begun come behind these, until they are so many
pub record IsFilled (count : ℕ) (old new : List Begun) : Type 0 where
  pub more : ℕ
  pub is : new ≡ old ++ replicate more unbegun
  pub long : length old ≤ count → length new ≡ count
