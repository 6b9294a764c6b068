-- How a check keeps the shares that were offered, beside its record.
use Rattle.std.specs.Prelude.{◌≡◌, ◌≢◌, ◌⊎◌, ℕ, ◌+◌, ◌<◌, ◌≤◌, List, [], ◌∷◌, ◌++◌, length, map}
use Rattle.std.specs.Prelude.{take, drop, Option, Some, None, slice_get, Bool, true, false}
use Rattle.std.specs.Prelude.{Contains, replicate, slice_set, filter, nat_lt, All}
use Rattle.cap_text.specs.Cap.{VerifyCapValue}
use Rattle.placement.specs.Matching.{Pair}
use Rattle.wire.specs.declared.message.Body.TheVariants.{Data}
use Rattle.wire.specs.declared.message.HeldShare.{HeldShare}
use Rattle.request_record.specs.Asking.{AsksOnce, begun}
use Rattle.request_record.specs.Kept.{IsDataAt}
use Rattle.request_record.specs.Record.{asked_all, asked_more, is_outstanding}
use Rattle.request_record.specs.Record.{outstanding_count}
use Rattle.request_record.specs.declared.requests.Asked.{Asked}
use Rattle.request_record.specs.declared.requests.Asked.TheVariants.{Holdings, Reading}
use Rattle.request_record.specs.declared.requests.Outcome.TheVariants.{Answered, Lost, Outstanding}
use Rattle.request_record.specs.declared.requests.Request.{Request}
use Rattle.share_reading.specs.OpeningReads.{Brought}
use Rattle.share_reading.specs.declared.reading.ShareReading as readings
use Rattle.share_reading.specs.Judged.{IsJudgedBy}
use Rattle.share_reading.specs.Reads.{IsReadBy}
use Rattle.share_reading.specs.Verdict.{IsVerdict, brought_of}
use Rattle.share_reading.specs.Whole.{IsWhole, joined}
use Rattle.share_reading.specs.declared.verdict.Verdict.{Verdict}
use Rattle.share_reading.specs.declared.verdict.Verdict.TheVariants as verdicts
use Rattle.checker.specs.Offers.{IsNew, IsUnjudged, IsWanting, key_of}
use Rattle.checker.specs.Pieces.{HasPieces}
use Rattle.checker.specs.Moves.{is_read}
use Rattle.checker.specs.Right.{AreOfShares}
use Rattle.checker.specs.Shares.{is_about, offered_in, offered_pairs, settled_of}
use Rattle.checker.specs.State.{CheckState}
use Rattle.checker.specs.Wanted.{AnyWaits, IsAhead, length_ahead, offset_ahead, positions_of}
use Rattle.checker.specs.declared.state.Machine.{Machine}
use Rattle.checker.specs.declared.state.Told.{Told}
use Rattle.checker.specs.declared.offers.Offer.{Offer}
use Rattle.checker.specs.declared.offers.Stage.{Stage}
use Rattle.checker.specs.declared.offers.Stage.TheVariants.{Waiting, Read, Ended}
use Rattle.checker.specs.declared.wanted.Came.{Came}
use Rattle.checker.specs.declared.wanted.Came.TheVariants.{Waits, Bytes, Nothing}
use Rattle.checker.specs.declared.wanted.Span.{Span}
use Rattle.checker.specs.declared.wanted.Wanted.{Wanted}
use Rattle.checker.specs.declared.status.CheckStatus.{CheckStatus}
use Rattle.checker.specs.declared.status.CheckStatus.TheVariants.{Running, Done, Failed}

-- ---- the reads of one share

-- it is a read of this share
abbrev pub IsAbout : Pair → Request → Type 0
IsAbout key r = is_about key.0 key.1 r ≡ true

-- the request at a position brought these bytes of the share
pub record IsReadAt (entries : List Request) (key : Pair) (position : ℕ) (read : Brought)
    : Type 0 where
  pub request : Request
  pub there : slice_get entries position ≡ Some request
  pub server : request.server ≡ key.0
  pub asked : request.asked ≡ Reading key.1 read.0 (length read.1)
  pub answer : request.outcome ≡ Answered (Data read.1)

-- the requests at these positions brought these bytes
abbrev pub AreReadAt : List Request → Pair → List ℕ → List Brought → Type 0
AreReadAt entries key [] [] = Unit {0}
AreReadAt entries key [] (read ∷ reads) = ⊥
AreReadAt entries key (position ∷ positions) [] = ⊥
AreReadAt entries key (position ∷ positions) (read ∷ reads) =
    IsReadAt entries key position read × AreReadAt entries key positions reads

-- the share is read by the requests at these positions alone
abbrev pub IsReadOnlyAt : List Request → Pair → List ℕ → Type 0
IsReadOnlyAt entries key positions =
    (i : ℕ) (r : Request) → slice_get entries i ≡ Some r → IsAbout key r → Contains positions i

-- what came for the request at a position, as far as it is taken in
abbrev pub HasCome : List ℕ → Request → ℕ → Came → Type 0
HasCome todo request position Waits =
    (request.outcome ≡ Outstanding) ⊎ Contains todo position
HasCome todo request position (Bytes bytes) = request.outcome ≡ Answered (Data bytes.items)
HasCome todo request position Nothing = (is_outstanding request.outcome ≡ false)
    × ((bytes : List ℕ) → request.outcome ≡ Answered (Data bytes) → ⊥)

-- the piece that comes so many pieces after the one that is read next is asked for
pub record IsPiece (entries : List Request) (todo : List ℕ) (key : Pair) (r : readings.ShareReading)
    (pieces : ℕ) (w : Wanted) : Type 0 where
  pub ahead : IsAhead r pieces
  pub request : Request
  pub there : slice_get entries w.position ≡ Some request
  pub server : request.server ≡ key.0
  pub asked : request.asked ≡ Reading key.1 (offset_ahead r pieces) (length_ahead r pieces)
  pub came : HasCome todo request w.position w.came

abbrev pub ArePieces : List Request → List ℕ → Pair → readings.ShareReading → List Wanted → Type 0
ArePieces entries todo key r wanted = (i : ℕ) (w : Wanted) → slice_get wanted i ≡ Some w
    → IsPiece entries todo key r i w

-- it is read so far, by requests that brought these bytes, which are judged, and kept where bytes
-- are kept; and these pieces of it are asked for
pub record IsReading (cap : VerifyCapValue) (entries : List Request) (todo : List ℕ) (o : Offer)
    (r : readings.ShareReading) : Type 0 where
  pub front : List Brought
  pub back : List Brought
  pub led : IsReadBy cap front back r
  pub front_at : AreReadAt entries (key_of o) o.front.items front
  pub back_at : AreReadAt entries (key_of o) o.back.items back
  pub judged : IsJudgedBy cap front back r o.judged
  pub pieces : HasPieces front back o.pieces
  pub wanted : ArePieces entries todo (key_of o) r o.wanted.items
  pub only : IsReadOnlyAt entries (key_of o)
      (positions_of o.wanted.items ++ (o.front.items ++ o.back.items))

-- the requests at its positions brought all bytes of it, and they are kept where bytes are kept
pub record IsHeld (entries : List Request) (o : Offer) : Type 0 where
  pub front : List Brought
  pub back : List Brought
  pub front_at : AreReadAt entries (key_of o) o.front.items front
  pub back_at : AreReadAt entries (key_of o) o.back.items back
  pub pieces : HasPieces front back o.pieces
  pub whole : IsWhole (brought_of (settled_of entries o.server o.share))
      (joined front ++ joined back)

-- its verdict is found, and nothing more is read of it
pub record IsEnded (cap : VerifyCapValue) (entries : List Request) (o : Offer) (v : Verdict)
    : Type 0 where
  pub verdict : IsVerdict cap o.share (settled_of entries o.server o.share) v
  pub held : v ≡ verdicts.Good → IsHeld entries o
  pub quiet : (i : ℕ) (r : Request) → slice_get entries i ≡ Some r → IsAbout (key_of o) r
      → is_outstanding r.outcome ≡ false

-- nothing is asked of it yet
pub record IsUnread (entries : List Request) (o : Offer) : Type 0 where
  pub front : o.front.items ≡ []
  pub back : o.back.items ≡ []
  pub wanted : o.wanted.items ≡ []
  pub judged : IsUnjudged o.judged
  pub pieces : HasPieces [] [] o.pieces
  pub none : IsReadOnlyAt entries (key_of o) []

abbrev pub IsAt : VerifyCapValue → List Request → List ℕ → Offer → Stage → Type 0
IsAt cap entries todo o Waiting = IsUnread entries o
IsAt cap entries todo o (Read r) = IsReading cap entries todo o r
IsAt cap entries todo o (Ended v) = IsEnded cap entries o v

abbrev pub IsOffer : VerifyCapValue → List Request → List ℕ → Offer → Type 0
IsOffer cap entries todo o = IsAt cap entries todo o o.stage

-- a piece of a share that is read waits
abbrev pub IsAwaitedAt : Offer → Stage → Type 0
IsAwaitedAt o Waiting = Unit {0}
IsAwaitedAt o (Read r) = AnyWaits o.wanted.items
IsAwaitedAt o (Ended v) = Unit {0}

abbrev pub IsAwaited : Offer → Type 0
IsAwaited o = IsAwaitedAt o o.stage

abbrev pub AreAwaited : List Offer → Type 0
AreAwaited offers = (k : ℕ) (o : Offer) → slice_get offers k ≡ Some o → IsAwaited o

-- the same but for one share, of which more is asked
pub record AreAwaitedBut (k : ℕ) (offers : List Offer) : Type 0 where
  pub others : (l : ℕ) (o : Offer) → l ≢ k → slice_get offers l ≡ Some o → IsAwaited o
  pub here : (o : Offer) → slice_get offers k ≡ Some o
      → AnyWaits o.wanted.items ⊎ (o.wanted.items ≡ [])

-- ---- all of them

-- the offer is that of the share that the request at a position reads
pub record IsOwner (entries : List Request) (offers : List Offer) (position k : ℕ) : Type 0 where
  pub offer : Offer
  pub there : slice_get offers k ≡ Some offer
  pub request : Request
  pub asks : slice_get entries position ≡ Some request
  pub about : IsAbout (key_of offer) request

-- the share was offered in the answer to one of the first requests, which is taken in
pub record IsTold (total n : ℕ) (entries : List Request) (todo : List ℕ) (o : Offer)
    : Type 0 where
  pub position : ℕ
  pub first : position < n
  pub request : Request
  pub there : slice_get entries position ≡ Some request
  pub server : request.server ≡ o.server
  pub quiet : is_outstanding request.outcome ≡ false
  pub taken : Contains todo position → ⊥
  pub listed : Contains (offered_in total o.server request.outcome) (key_of o)

-- these are the shares of the offers of a server
abbrev pub AreKeys : List Offer → Told → List Pair → Type 0
AreKeys offers t keys =
    (t.first + t.count ≤ length offers) × (take t.count (drop t.first (map key_of offers)) ≡ keys)

-- the offers of a server are those that its answer lists, where that is taken in
abbrev pub HasTold : ℕ → List ℕ → List Offer → ℕ → Told → Request → Type 0
HasTold total todo offers position t r =
    (Contains todo position × AreKeys offers t [])
    ⊎ AreKeys offers t (offered_in total r.server r.outcome)

abbrev pub IsStarted : Stage → Type 0
IsStarted stage = stage ≢ Waiting

-- What is kept of the shares is as the record says, and their bytes are kept as the check keeps
-- them. `todo`: the positions of requests that wait no more, of which this is not taken in yet.
pub record IsBook (cap : VerifyCapValue) (keeps : Bool) (entries : List Request)
    (told : List Told) (owners : List ℕ) (offers : List Offer) (begun : ℕ) (todo : List ℕ)
    : Type 0 where
  -- the first requests ask which shares the servers hold, and each other one reads a share
  pub asks : (i : ℕ) (r : Request) → i < length told → slice_get entries i ≡ Some r
      → r.asked ≡ Holdings
  pub long : length entries ≡ length told + length owners
  pub owned : (p k : ℕ) → slice_get owners p ≡ Some k
      → IsOwner entries offers (length told + p) k
  -- each offer is a share of its own, and is read so far
  pub apart : (k l : ℕ) (a b : Offer) → slice_get offers k ≡ Some a
      → slice_get offers l ≡ Some b → key_of a ≡ key_of b → k ≡ l
  pub reading : (k : ℕ) (o : Offer) → slice_get offers k ≡ Some o → IsOffer cap entries todo o
  pub alike : (k : ℕ) (o : Offer) → slice_get offers k ≡ Some o → o.pieces.keeps ≡ keeps
  pub offered : (k : ℕ) (o : Offer) → slice_get offers k ≡ Some o
      → IsTold cap.total (length told) entries todo o
  pub tells : (i : ℕ) (t : Told) (r : Request) → slice_get told i ≡ Some t
      → slice_get entries i ≡ Some r → HasTold cap.total todo offers i t r
  pub quiet : (i : ℕ) (r : Request) → Contains todo i → slice_get entries i ≡ Some r
      → is_outstanding r.outcome ≡ false
  pub inside : (i : ℕ) → Contains todo i → i < length entries
  -- those up to one are begun
  pub started : (k : ℕ) (o : Offer) → slice_get offers k ≡ Some o → k < begun
      → IsStarted o.stage
  pub unread : (k : ℕ) (o : Offer) → slice_get offers k ≡ Some o → begun ≤ k
      → o.stage ≡ Waiting
  pub few : begun ≤ length offers

abbrev pub HasBook : Machine → List ℕ → Type 0
HasBook m todo = IsBook m.cap m.keeps m.requests.entries m.told.items m.owners.items
    m.offers.items m.begun todo

-- it asks which shares a server holds, or for bytes of a share that this server offered
abbrev pub AsksOrReads : VerifyCapValue → List Request → ℕ → Asked → Type 0
AsksOrReads cap entries server Holdings = Unit {0}
AsksOrReads cap entries server (Reading share offset len) =
    Contains (offered_pairs cap.total entries) (server, share)
AsksOrReads cap entries server asked = ⊥

abbrev pub AllAskOrRead : VerifyCapValue → List Request → Type 0
AllAskOrRead cap entries = (i : ℕ) (r : Request) → slice_get entries i ≡ Some r
    → AsksOrReads cap entries r.server r.asked

-- only these servers are asked which shares they hold
abbrev pub AsksItsOwn : List ℕ → List Request → Type 0
AsksItsOwn servers entries = (i : ℕ) (r : Request) → slice_get entries i ≡ Some r
    → r.asked ≡ Holdings → Contains servers r.server

-- what is asked is right, whatever becomes of the check
pub record IsSafe (m : Machine) : Type 0 where
  pub once : AsksOnce m.requests.entries
  pub reads : AreOfShares m.cap m.requests.entries
  pub asked : AllAskOrRead m.cap m.requests.entries

-- what is kept of each check
pub record IsKept (m : Machine) (status : CheckStatus) : Type 0 where
  pub safe : IsSafe m
  pub book : status ≢ Failed → HasBook m []
  pub awaited : status ≢ Failed → AreAwaited m.offers.items
  pub works : status ≡ Running → 0 < outstanding_count m.requests.entries
  pub idle : status ≡ Done → outstanding_count m.requests.entries ≡ 0
  pub begun : status ≡ Done → m.begun ≡ length m.offers.items

-- what contracts see of it
abbrev pub state_of : Machine → List ℕ → CheckStatus → CheckState
state_of m servers status = record {
  cap = m.cap;
  servers = servers;
  keeps = m.keeps;
  requests = m.requests;
  status = status;
}

-- more reads are asked
pub record AsksMore (old new : Machine) : Type 0 where
  pub cap : new.cap ≡ old.cap
  pub keeps : new.keeps ≡ old.keeps
  pub asks : List (ℕ × Asked)
  pub reads : All (λ (ask : ℕ × Asked). is_read ask.1 ≡ true) asks
  pub requests : new.requests ≡ asked_all asks old.requests

-- ---- what a request brought

-- these bytes answered the request at a position, or none did
abbrev pub IsBrought : List Request → ℕ → Option (List ℕ) → Type 0
IsBrought entries position (Some bytes) = IsDataAt entries position bytes
IsBrought entries position None = (bytes : List ℕ) → IsDataAt entries position bytes → ⊥

-- a piece of a share is asked for
pub record HasAsked (old : Machine) (k : ℕ) (s : Span) (o : Offer) (new : Machine) : Type 0 where
  pub cap : new.cap ≡ old.cap
  pub keeps : new.keeps ≡ old.keeps
  pub told : new.told.items ≡ old.told.items
  pub begun : new.begun ≡ old.begun
  pub ahead : new.ahead ≡ old.ahead
  pub requests : new.requests
      ≡ asked_more o.server (Reading o.share s.offset s.length) old.requests
  pub owners : new.owners.items ≡ old.owners.items ++ k ∷ []
  pub offer : Offer
  pub offers : new.offers.items ≡ slice_set old.offers.items k offer
  pub more : IsWanting (length old.requests.entries) o offer

-- it is the next piece to ask for, of a share that is read so far
pub record IsNextSpan (r : readings.ShareReading) (o : Offer) (s : Span) : Type 0 where
  pub ahead : IsAhead r (length o.wanted.items)
  pub offset : s.offset ≡ offset_ahead r (length o.wanted.items)
  pub long : s.length ≡ length_ahead r (length o.wanted.items)

-- the same machine but for its offers, of which so many are begun
pub record IsWithOffers (old new : Machine) (offers : List Offer) (begun : ℕ) : Type 0 where
  pub cap : new.cap ≡ old.cap
  pub keeps : new.keeps ≡ old.keeps
  pub requests : new.requests ≡ old.requests
  pub told : new.told.items ≡ old.told.items
  pub owners : new.owners.items ≡ old.owners.items
  pub offers_are : new.offers.items ≡ offers
  pub begun_is : new.begun ≡ begun

-- nothing is asked
pub record AsksNothing (old new : Machine) : Type 0 where
  pub cap : new.cap ≡ old.cap
  pub keeps : new.keeps ≡ old.keeps
  pub requests : new.requests ≡ old.requests

-- a request that is at a position waits no more
abbrev pub IsSettledAt : List Request → ℕ → Type 0
IsSettledAt entries position =
    (r : Request) → slice_get entries position ≡ Some r → is_outstanding r.outcome ≡ false

-- the share at a position among the offers is read so far
pub record IsAsking (m : Machine) (k : ℕ) (r : readings.ShareReading) (o : Offer) : Type 0 where
  pub there : slice_get m.offers.items k ≡ Some o
  pub stage : o.stage ≡ Read r

-- it waits for one of its pieces, by the request at a position, of which became this
pub record IsAwaitingAt (m : Machine) (k : ℕ) (r : readings.ShareReading) (piece position : ℕ)
    (bytes : Option (List ℕ)) (todo : List ℕ) : Type 0 where
  pub offer : Offer
  pub is : IsAsking m k r offer
  pub wanted : Wanted
  pub there : slice_get offer.wanted.items piece ≡ Some wanted
  pub at : wanted.position ≡ position
  pub behind : length m.told.items ≤ position
  pub settled : IsSettledAt m.requests.entries position
  pub brought : IsBrought m.requests.entries position bytes
  pub book : HasBook m (position ∷ todo)

-- a check that has just begun
pub record IsFresh (cap : VerifyCapValue) (servers : List ℕ) (session now : ℕ) (keeps : Bool)
    (m : Machine) : Type 0 where
  pub of_cap : m.cap ≡ cap
  pub of_keeps : m.keeps ≡ keeps
  pub requests : m.requests ≡ begun servers session now
  pub told : m.told.items ≡ replicate (length servers) (record { first = 0; count = 0 })
  pub owners : m.owners.items ≡ []
  pub offers : m.offers.items ≡ []
  pub begun_none : m.begun ≡ 0

-- these requests are lost
abbrev pub AreLost : List Request → List ℕ → Type 0
AreLost entries positions = (i : ℕ) (r : Request) → Contains positions i → slice_get entries i
    ≡ Some r
    → r.outcome ≡ Lost

-- the answer to the request at a position is not to be taken in again, unless it was lost
abbrev pub IsTakenOnce : List Request → ℕ → List ℕ → Type 0
IsTakenOnce entries position todo =
    (Contains todo position → ⊥)
    ⊎ ((r : Request) → slice_get entries position ≡ Some r → r.outcome ≡ Lost)

-- the shares of these that have a number below the file's are added
pub record ArePushed (keeps : Bool) (total server : ℕ) (held : List HeldShare)
    (old new : List Offer) : Type 0 where
  pub more : List Offer
  pub offers : new ≡ old ++ more
  pub keys : map key_of more
      ≡ map (λ (h : HeldShare). (server, h.share))
      (filter (λ (h : HeldShare). nat_lt h.share total) held)
  pub unread : All (IsNew keeps) more

-- a check with this record may stand so
pub record IsStanding (entries : List Request) (status : CheckStatus) : Type 0 where
  pub runs_or_done : status ≢ Failed
  pub works : status ≡ Running → 0 < outstanding_count entries
  pub idle : status ≡ Done → outstanding_count entries ≡ 0
