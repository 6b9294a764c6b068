-- The trail of a share at a server: what the server was asked about the share, in order.
use Rattle.std.specs.Prelude.{◌≡◌, ℕ, ◌+◌, ◌*◌, ◌<◌, ◌≤◌, List, Option, Some, None, Contains}
use Rattle.std.specs.Prelude.{slice_get, Bool, true, false}
use Rattle.request_record.specs.declared.requests.Asked.{Asked}
use Rattle.request_record.specs.declared.requests.Asked.TheVariants.{Holdings, Allocation, Writing}
use Rattle.request_record.specs.declared.requests.Asked.TheVariants.{Closing}
use Rattle.request_record.specs.declared.requests.Asked.TheVariants.{Reading, Aborting}
use Rattle.request_record.specs.declared.requests.Outcome.TheVariants.{Lost}
use Rattle.request_record.specs.declared.requests.Request.{Request}
use Rattle.request_record.specs.Record.{is_outstanding}
use Rattle.wire.specs.Limits.{most_data}
use Rattle.placement.specs.Matching.{Pair}
use Rattle.upload_core.specs.State.{Goal}
use Rattle.upload_core.specs.Acknowledged.{acked_by}
use Rattle.upload_core.specs.Transfers.{has_failed, is_transfer}

-- the share that an upload asks about
abbrev pub share_of : Asked → Option ℕ
share_of Holdings = None
share_of (Allocation share len) = Some share
share_of (Writing share offset len) = Some share
share_of (Closing share) = Some share
share_of (Reading share offset len) = None
share_of (Aborting share) = Some share

-- what is asked last where a transfer failed
abbrev pub is_abort : Asked → Bool
is_abort (Aborting share) = true
is_abort asked = false

-- how far a transfer is at the beginning of a request, and at its end
abbrev pub rank_of : Goal → Asked → ℕ
rank_of g Holdings = 0
rank_of g (Allocation share len) = 0
rank_of g (Writing share offset len) = offset + 1
rank_of g (Closing share) = g.share_length + 2
rank_of g (Reading share offset len) = 0
rank_of g (Aborting share) = g.share_length + 3

abbrev pub reach_of : Goal → Asked → ℕ
reach_of g (Writing share offset len) = offset + len
reach_of g asked = rank_of g asked

-- What may be asked while a request waits, after it and in its trail: behind a piece those that end
-- within `ahead` pieces from its beginning, and the Abort.
abbrev pub IsWithin : Goal → Asked → Asked → Type 0
IsWithin g (Writing share offset len) (Writing other at count) =
    at + count ≤ offset + g.ahead * most_data
IsWithin g (Writing share offset len) (Aborting other) = Unit {0}
IsWithin g asked next = ⊥

-- it asks the pair's server about the pair's share
abbrev pub IsAbout : Pair → Request → Type 0
IsAbout pair r = (r.server ≡ pair.0) × (share_of r.asked ≡ Some pair.1)

-- no request is about this pair
abbrev pub IsNew : List Request → Pair → Type 0
IsNew entries pair = (i : ℕ) (r : Request) → slice_get entries i ≡ Some r → IsAbout pair r → ⊥

-- what is asked next begins behind a request, and lies in its window while it waits
pub record IsBefore (g : Goal) (r : Request) (next : Asked) : Type 0 where
  pub further : reach_of g r.asked < rank_of g next
  pub within : is_outstanding r.outcome ≡ true → IsWithin g r.asked next

-- in each trail one request goes on from another
abbrev pub AreTrails : Goal → List Request → Type 0
AreTrails g entries =
    (i j : ℕ) (a b : Request) (pair : Pair) → i < j → slice_get entries i ≡ Some a
    → slice_get entries j ≡ Some b → IsAbout pair a → IsAbout pair b → IsBefore g a b.asked

-- what is asked of a server goes on from each request of its trail
abbrev pub GoesFurther : Goal → List Request → ℕ × Asked → Type 0
GoesFurther g entries ask =
    (i : ℕ) (r : Request) (share : ℕ) → slice_get entries i ≡ Some r → IsAbout (ask.0, share) r
    → share_of ask.1 ≡ Some share → IsBefore g r ask.1

-- The request at this position waits no more, and what was asked after it and in its trail, the
-- Abort aside, is within its window, as it was asked while it waited.
pub record IsPassed (g : Goal) (entries : List Request) (position : ℕ) : Type 0 where
  pub request : Request
  pub there : slice_get entries position ≡ Some request
  pub quiet : is_outstanding request.outcome ≡ false
  pub behind : (i : ℕ) (r : Request) (pair : Pair) → position < i → slice_get entries i ≡ Some r
      → IsAbout pair request → IsAbout pair r → is_abort r.asked ≡ false
      → IsWithin g request.asked r.asked

-- the request at this position was lost
pub record IsLostAt (entries : List Request) (position : ℕ) : Type 0 where
  pub request : Request
  pub there : slice_get entries position ≡ Some request
  pub lost : request.outcome ≡ Lost

-- what became of the transfer of a pair: its server failed, its share is acknowledged, or a request
-- of it waits
pub data IsFollowed (g : Goal) (entries : List Request) (pair : Pair) : Type 0 where
  by_failure : (i : ℕ) (r : Request) → slice_get entries i ≡ Some r → r.server ≡ pair.0
      → has_failed g r ≡ true → IsFollowed g entries pair
  by_answer : (i : ℕ) (r : Request) → slice_get entries i ≡ Some r
      → Contains (acked_by g r) pair → IsFollowed g entries pair
  by_waiting : (i : ℕ) (r : Request) → slice_get entries i ≡ Some r → IsAbout pair r
      → is_transfer r.asked ≡ true → is_outstanding r.outcome ≡ true → IsFollowed g entries pair

-- a transfer of this server failed
pub record HasFailed (g : Goal) (entries : List Request) (server : ℕ) : Type 0 where
  pub position : ℕ
  pub request : Request
  pub there : slice_get entries position ≡ Some request
  pub server_is : request.server ≡ server
  pub failed : has_failed g request ≡ true

-- an Abort is asked only of a server at which a transfer failed
abbrev pub AreFailed : Goal → List Request → Type 0
AreFailed g entries =
    (i : ℕ) (r : Request) → slice_get entries i ≡ Some r → is_abort r.asked ≡ true
    → HasFailed g entries r.server

-- so it is with each trail
abbrev pub AreFollowed : Goal → List Request → Type 0
AreFollowed g entries =
    (i : ℕ) (r : Request) (pair : Pair) → slice_get entries i ≡ Some r → IsAbout pair r
    → IsFollowed g entries pair
