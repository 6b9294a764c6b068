-- The record of what one operation asked, and what became of it.
use Rattle.std.specs.Prelude.{◌≡◌, ℕ, ◌+◌, ◌-◌, ◌/◌, ◌<◌, ◌≤◌, ◌==◌, ◌&&◌, not, nat_lt, nat_le, min}
use Rattle.std.specs.Prelude.{max, List, [], ◌∷◌, ◌++◌, Bool, true, false, Option, Some, None}
use Rattle.std.specs.Prelude.{if◌then◌else◌, length, slice_get, slice_set, map, filter, take}
use Rattle.std.specs.Prelude.{count_by, All}
use Rattle.wire.specs.declared.message.Body.{Body}
use Rattle.wire.specs.declared.message.Body.TheVariants.{Have, Granted, Already, Busy, Full, Wrote}
use Rattle.wire.specs.declared.message.Body.TheVariants.{WrongOffset, Closed, NotComplete, Data}
use Rattle.wire.specs.declared.message.Body.TheVariants.{NoShare}
use Rattle.wire.specs.declared.message.Message.{Message}
use Rattle.request_record.specs.declared.requests.Asked.{Asked}
use Rattle.request_record.specs.declared.requests.Asked.TheVariants.{Holdings, Allocation}
use Rattle.request_record.specs.declared.requests.Asked.TheVariants.{Writing, Closing}
use Rattle.request_record.specs.declared.requests.Asked.TheVariants.{Reading, Aborting}
use Rattle.request_record.specs.declared.requests.Outcome.{Outcome}
use Rattle.request_record.specs.declared.requests.Outcome.TheVariants.{Unawaited, Outstanding}
use Rattle.request_record.specs.declared.requests.Outcome.TheVariants.{Answered, Lost}
use Rattle.request_record.specs.declared.requests.Request.{Request}
use Rattle.request_record.specs.Limits.{lost_age, mark_seconds, most_marks}

-- the requests in order; request n is at position n - 1; the positions still to send, in order; the
-- latest time
pub record RequestsState : Type 0 where
  pub session : ℕ
  pub entries : List Request
  pub outgoing : List ℕ
  pub clock : ℕ

-- the value of a record with these fields
abbrev pub requests_state : ℕ → List Request → List ℕ → ℕ → RequestsState
requests_state session entries outgoing clock =
    record { session = session; entries = entries; outgoing = outgoing; clock = clock }

-- the kinds of answer that fit a request
abbrev pub fits : Asked → Body → Bool
fits Holdings (Have readonly held) = true
fits (Allocation share len) (Already digest) = true
fits (Allocation share len) Granted = true
fits (Allocation share len) Busy = true
fits (Allocation share len) Full = true
fits (Writing share offset len) (Already digest) = true
fits (Writing share offset len) NoShare = true
fits (Writing share offset len) (WrongOffset written) = true
fits (Writing share offset len) (Wrote next) = true
fits (Closing share) (Closed digest) = true
fits (Closing share) NoShare = true
fits (Closing share) (NotComplete written) = true
fits (Reading share offset len) (Data bytes) = true
fits (Reading share offset len) NoShare = true
fits asked body = false

abbrev pub is_outstanding : Outcome → Bool
is_outstanding Outstanding = true
is_outstanding Unawaited = false
is_outstanding (Answered body) = false
is_outstanding Lost = false

-- how many requests wait for their answers
abbrev pub outstanding_count : List Request → ℕ
outstanding_count entries = count_by (λ (r : Request). is_outstanding r.outcome) entries

abbrev pub with_outcome : Request → Outcome → Request
with_outcome r o =
    record {
      server = r.server;
      asked = r.asked;
      first_sent = r.first_sent;
      sendings = r.sendings;
      marks = r.marks;
      outcome = o;
    }

-- ---- asking

-- An Aborting is not waited for.
abbrev pub first_outcome : Asked → Outcome
first_outcome Holdings = Outstanding
first_outcome (Allocation share len) = Outstanding
first_outcome (Writing share offset len) = Outstanding
first_outcome (Closing share) = Outstanding
first_outcome (Reading share offset len) = Outstanding
first_outcome (Aborting share) = Unawaited

-- a request that is sent first at this second
abbrev pub first_request : ℕ → Asked → ℕ → Request
first_request server asked now =
    record {
      server = server;
      asked = asked;
      first_sent = now;
      sendings = 1;
      marks = 0;
      outcome = first_outcome asked;
    }

-- one more request, to be sent now
abbrev pub asked_more : ℕ → Asked → RequestsState → RequestsState
asked_more server asked r =
    record {
      session = r.session;
      entries = r.entries ++ first_request server asked r.clock ∷ [];
      outgoing = r.outgoing ++ length r.entries ∷ [];
      clock = r.clock;
    }

-- these requests of these servers, one after another
abbrev pub asked_all : List (ℕ × Asked) → RequestsState → RequestsState
asked_all [] r = r
asked_all (ask ∷ asks) r = asked_all asks (asked_more ask.0 ask.1 r)

-- the first of the positions to send is taken
abbrev pub TakesNext : RequestsState → Option ℕ → RequestsState → Type 0
TakesNext old None new = (old.outgoing ≡ []) × (new ≡ old)
TakesNext old (Some position) new =
    (old.outgoing ≡ position ∷ new.outgoing)
    × (new ≡ record {
      session = old.session;
      entries = old.entries;
      outgoing = new.outgoing;
      clock = old.clock;
    })
    × (position < length old.entries)

-- ---- answers

-- the record at a time; time does not go back
abbrev pub at : ℕ → RequestsState → RequestsState
at now r =
    record {
      session = r.session;
      entries = r.entries;
      outgoing = r.outgoing;
      clock = max r.clock now;
    }

-- An answer counts while its request is outstanding, from the server asked, of a kind that fits.
abbrev pub awaits : ℕ → Body → Request → Bool
awaits from body r = is_outstanding r.outcome && (r.server == from) && fits r.asked body

abbrev pub awaits_at : ℕ → Body → Option Request → Bool
awaits_at from body None = false
awaits_at from body (Some r) = awaits from body r

-- the position of the request that a message answers, where it counts
abbrev pub counts_at : ℕ → Message → RequestsState → Option ℕ
counts_at from m r =
    if (m.session == r.session) && not (m.number == 0)
    && awaits_at from m.body (slice_get r.entries (m.number - 1))
    then Some (m.number - 1)
    else None

abbrev pub answered_in : List Request → ℕ → Option Request → Body → List Request
answered_in entries position None body = entries
answered_in entries position (Some r) body = slice_set entries position
    (with_outcome r (Answered body))

-- these positions without one
abbrev pub without : ℕ → List ℕ → List ℕ
without position positions = filter (λ (p : ℕ). not (p == position)) positions

-- What is answered is kept with its answer, and is not sent any more.
abbrev pub counted_at : Message → RequestsState → Option ℕ → RequestsState
counted_at m r None = r
counted_at m r (Some position) =
    record {
      session = r.session;
      entries = answered_in r.entries position (slice_get r.entries position) m.body;
      outgoing = without position r.outgoing;
      clock = r.clock;
    }

-- the record after a message from a server
abbrev pub counted : ℕ → Message → RequestsState → RequestsState
counted from m r = counted_at m r (counts_at from m r)

-- ---- ticks

-- how many of the marks 5, 10 and 15 seconds lie at or before an age
abbrev pub passed : ℕ → ℕ
passed age = min most_marks (age / mark_seconds)

abbrev pub age_of : ℕ → Request → ℕ
age_of now r = now - r.first_sent

abbrev pub is_lost_at : ℕ → Request → Bool
is_lost_at now r = is_outstanding r.outcome && nat_le lost_age (age_of now r)

-- is it sent again at a tick?
abbrev pub is_resent_at : ℕ → Request → Bool
is_resent_at now r =
    is_outstanding r.outcome && nat_lt (age_of now r) lost_age
    && nat_lt r.marks (passed (age_of now r))

abbrev pub resent_one : ℕ → Request → Request
resent_one now r =
    record {
      server = r.server;
      asked = r.asked;
      first_sent = r.first_sent;
      sendings = r.sendings + 1;
      marks = passed (age_of now r);
      outcome = r.outcome;
    }

abbrev pub ticked_one : ℕ → Request → Request
ticked_one now r =
    if is_lost_at now r
    then with_outcome r Lost
    else (if is_resent_at now r then resent_one now r else r)

-- the positions of the requests that pass a test, the first of them at this position
abbrev pub positions_from : (Request → Bool) → ℕ → List Request → List ℕ
positions_from test position [] = []
positions_from test position (r ∷ rs) =
    if test r then position ∷ positions_from test (position + 1) rs else positions_from test
    (position + 1) rs

-- the positions of those that a tick sends again
abbrev pub resent_positions : ℕ → List Request → List ℕ
resent_positions now entries = positions_from (is_resent_at now) 0 entries

-- the positions of those that a tick finds lost
abbrev pub lost_positions : ℕ → List Request → List ℕ
lost_positions now entries = positions_from (is_lost_at now) 0 entries

abbrev pub is_lost_in : ℕ → Option Request → Bool
is_lost_in now None = false
is_lost_in now (Some r) = is_lost_at now r

-- these positions without those of lost requests
abbrev pub without_lost : ℕ → List Request → List ℕ → List ℕ
without_lost now entries positions =
    filter (λ (position : ℕ). not (is_lost_in now (slice_get entries position))) positions

-- The record after a tick. What is lost is not sent any more.
abbrev pub ticked : ℕ → RequestsState → RequestsState
ticked now r =
    record {
      session = r.session;
      entries = map (ticked_one now) r.entries;
      outgoing = without_lost now r.entries (r.outgoing ++ resent_positions now r.entries);
      clock = now;
    }

-- ---- what holds of each record

-- A mark is used up by at most one sending, and the first is for none: a request is sent at most
-- four times.
abbrev pub IsSentFew : Request → Type 0
IsSentFew r = (r.marks ≤ most_marks) × (r.sendings ≤ r.marks + 1)

-- is it neither answered nor lost?
abbrev pub is_current : Outcome → Bool
is_current Unawaited = true
is_current Outstanding = true
is_current (Answered body) = false
is_current Lost = false

abbrev pub is_current_in : Option Request → Bool
is_current_in None = false
is_current_in (Some r) = is_current r.outcome

-- Requests are sent few times, what is to send is there, and nothing is sent for a request that
-- was answered or lost.
pub record IsRecord (r : RequestsState) : Type 0 where
  pub few : All IsSentFew r.entries
  pub there : All (λ position. position < length r.entries) r.outgoing
  pub current : All (λ position. is_current_in (slice_get r.entries position) ≡ true) r.outgoing

-- ---- words of private clauses

-- no request before this position waits for an answer
pub record AreSettled (position : ℕ) (entries : List Request) : Type 0 where
  pub within : position ≤ length entries
  pub settled : All (λ (r : Request). is_outstanding r.outcome ≡ false) (take position entries)

-- was it sent again, after its first sending? Only such a sending uses up a mark.
abbrev pub was_sent_again : Request → Bool
was_sent_again r = nat_lt 0 r.marks

abbrev pub was_sent_again_in : Option Request → Bool
was_sent_again_in None = false
was_sent_again_in (Some r) = was_sent_again r

-- the position behind the last first sending, once the request at this position is sent: it stays
-- where this is no first sending
abbrev pub sent_to : Option Request → ℕ → ℕ → ℕ
sent_to request position sent = if was_sent_again_in request then sent else position + 1

-- Of the requests to send, those not sent before come in the order of their positions, the first of
-- them not before this position.
abbrev pub AreInOrder : ℕ → List Request → List ℕ → Type 0
AreInOrder sent entries [] = Unit {0}
AreInOrder sent entries (position ∷ positions) =
    (was_sent_again_in (slice_get entries position) ≡ false → sent ≤ position)
    × AreInOrder (sent_to (slice_get entries position) position sent) entries positions

-- what is kept beside the record: how many requests wait, a position before which none does, and
-- one before which only those sent again are to send
pub record IsIndexed
    (outstanding settled sent : ℕ) (entries : List Request) (outgoing : List ℕ) : Type 0 where
  pub counts : outstanding ≡ outstanding_count entries
  pub before : AreSettled settled entries
  pub within : sent ≤ length entries
  pub order : AreInOrder sent entries outgoing
