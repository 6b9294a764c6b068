-- What holds of every server over a store that keeps, and what its answers tell.
use Rattle.std.specs.Prelude.{◌≡◌, ◌≤◌, ℕ, Bool, true, false, List, [], ◌∷◌, Some, None, Ok, Err}
use Rattle.std.specs.Prelude.{All, filter, length, take, drop, ⊤, ◌⊎◌}
use Rattle.wire.specs.declared.message.Body.{Body}
use Rattle.wire.specs.declared.message.Body.TheVariants.{Ask, Have, Allocate, Granted, Already}
use Rattle.wire.specs.declared.message.Body.TheVariants.{Busy, Full, Write, Wrote, WrongOffset}
use Rattle.wire.specs.declared.message.Body.TheVariants.{Close, Closed, NotComplete, Abort, Read}
use Rattle.wire.specs.declared.message.Body.TheVariants.{Data, NoShare}
use Rattle.wire.specs.declared.message.Message.{Message}
use Rattle.wire.specs.declared.message.ShareId.{ShareId}
use Rattle.wire.specs.declared.message.HeldShare.{HeldShare}
use Rattle.tagged_hash.specs.TaggedHash.{share_digest}
use Rattle.share_store.specs.declared.shelf.ClosedShare.{ClosedShare}
use Rattle.share_store.specs.Shelf.{Shelf, ShareKey, AreRising, closed_at, digest_at, written}
use Rattle.share_store.specs.Shelf.{Restarts}
use Rattle.share_store.specs.Calls.{shelf_calls}
use Rattle.server_core.specs.declared.bucket.Bucket.{Bucket}
use Rattle.server_core.specs.Buckets.{bucket_at, is_of_another, is_owned, Gathers, IsNothing}
use Rattle.server_core.specs.Limits.{most_buckets}
use Rattle.server_core.specs.ServerState.{ServerState, Line, Outcome, Serves, Ticks, RestartsTo}
use Rattle.server_core.specs.ServerState.{LetsGoOfEnded, without_client}
use Rattle.server_core.specs.ServerState.{Silent, Says, Touches, Opens, Ends, ListsHoldings}
use Rattle.server_core.specs.ServerState.{WritesBytes, ClosesShare, ReadsShare}

-- the same server, over what its store is to it
abbrev pub over : {S T : Type 0} → (S → T) → ServerState S → ServerState T
over f m =
    record {
      store = f m.store;
      buckets = m.buckets;
      clock = m.clock;
      capacity = m.capacity;
      readonly = m.readonly;
    }

-- ---- what holds

-- A closed share stays as it is.
abbrev pub ClosedStay : Shelf → Shelf → Type 0
ClosedStay old new =
    (id : ShareId) (c : ClosedShare) → closed_at id old.closed ≡ Some c
    → closed_at id new.closed ≡ Some c

-- No share has two buckets.
abbrev pub AreApart : List Bucket → Type 0
AreApart [] = ⊤
AreApart (b ∷ bs) = (bucket_at b.id bs ≡ None) × AreApart bs

-- A bucket was given nothing yet, or the bytes that the store has of its share.
abbrev pub IsWritten : Bucket → List ℕ → Type 0
IsWritten b bytes = IsNothing b.gathered ⊎ Gathers b.length b.gathered bytes

-- Each closed share has the digest of its bytes.
abbrev pub HaveDigests : List (ShareKey × ClosedShare) → Type 0
HaveDigests closed =
    (id : ShareId) (c : ClosedShare) → closed_at id closed ≡ Some c
    → c.digest ≡ share_digest c.bytes

-- The closed shares stand in order, and have the digests of their bytes.
pub record AreRight (closed : List (ShareKey × ClosedShare)) : Type 0 where
  pub rising : AreRising closed
  pub digests : HaveDigests closed

-- The closed shares are right, and each bucket gathers what was written.
pub record AreSound (closed : List (ShareKey × ClosedShare)) (opened : List (ShareKey × List ℕ))
    (buckets : List Bucket) : Type 0 where
  pub right : AreRight closed
  pub apart : AreApart buckets
  pub few : length buckets ≤ most_buckets
  pub gathered : (id : ShareId) (b : Bucket) → bucket_at id buckets ≡ Some b
      → IsWritten b (written id opened)

abbrev pub IsSound : ServerState Shelf → Type 0
IsSound m = AreSound m.store.closed m.store.opened m.buckets

-- ---- what answers tell

-- the kinds of message that a server answers
abbrev pub is_request : Body → Bool
is_request (Ask index) = true
is_request (Allocate id len) = true
is_request (Write id offset bytes) = true
is_request (Close id) = true
is_request (Abort id) = true
is_request (Read id offset len) = true
is_request (Have readonly held) = false
is_request Granted = false
is_request (Already digest) = false
is_request Busy = false
is_request Full = false
is_request (Wrote next) = false
is_request (WrongOffset written) = false
is_request (Closed digest) = false
is_request (NotComplete written) = false
is_request (Data bytes) = false
is_request NoShare = false

-- what an answer to a request tells of the closed shares
abbrev pub Tells : Shelf → Body → Body → Type 0
Tells s (Ask index) (Have readonly found) =
    All (λ (h : HeldShare).
    digest_at (record { index = index; share = h.share }) s.closed ≡ Some h.digest) found
Tells s (Allocate id len) (Already digest) = digest_at id s.closed ≡ Some digest
Tells s (Write id offset bytes) (Already digest) = digest_at id s.closed ≡ Some digest
Tells s (Close id) (Closed digest) = digest_at id s.closed ≡ Some digest
Tells s (Read id offset len) (Data bytes) =
    (c : ClosedShare) × (closed_at id s.closed ≡ Some c)
    × (bytes ≡ take len (drop offset c.bytes))
Tells s request answer = ⊤

-- An answer belongs to its request, and tells what is so.
pub record IsAnswer (s : Shelf) (request answer : Message) : Type 0 where
  pub session : answer.session ≡ request.session
  pub number : answer.number ≡ request.number
  pub asked : is_request request.body ≡ true
  pub kind : is_request answer.body ≡ false
  pub tells : Tells s request.body answer.body

abbrev pub Answers : Shelf → Message → Outcome → Type 0
Answers s request (Ok (Some answer)) = IsAnswer s request answer
Answers s request (Ok None) = ⊤
Answers s request (Err e) = ⊤

-- ---- who changes a bucket

-- the bucket of this share belongs to this client and session
abbrev pub Owns : ℕ → ℕ → ShareId → List Bucket → Type 0
Owns client session id bs =
    (b : Bucket) × (bucket_at id bs ≡ Some b) × (is_owned client session b ≡ true)

-- A line changes a bucket for its owner alone, and opens one only where there is none.
abbrev pub IsOwnLine : ℕ → ℕ → List Bucket → Line → Type 0
IsOwnLine client session bs Silent = ⊤
IsOwnLine client session bs (Says body) = ⊤
IsOwnLine client session bs (Touches id body) = Owns client session id bs
IsOwnLine client session bs (Opens c s id len) = bucket_at id bs ≡ None
IsOwnLine client session bs (Ends id) = Owns client session id bs
IsOwnLine client session bs (ListsHoldings index) = ⊤
IsOwnLine client session bs (WritesBytes id b bytes) = Owns client session id bs
IsOwnLine client session bs (ClosesShare id digest) = Owns client session id bs
IsOwnLine client session bs (ReadsShare id offset len) = ⊤

-- The buckets of other clients and sessions stay as they are.
abbrev pub OthersBucketsStay : ℕ → ℕ → List Bucket → List Bucket → Type 0
OthersBucketsStay client session old new =
    (id : ShareId) (b : Bucket) → bucket_at id old ≡ Some b → is_owned client session b ≡ false
    → bucket_at id new ≡ Some b

-- And so does what they have written.
abbrev pub OthersBytesStay : ℕ → ℕ → ServerState Shelf → Shelf → Type 0
OthersBytesStay client session old new =
    (id : ShareId) (b : Bucket) → bucket_at id old.buckets ≡ Some b
    → is_owned client session b ≡ false → written id new.opened ≡ written id old.store.opened

-- ---- the laws of every server

-- What a message leaves whatever the server's state: closed shares stay as they are, and so do the
-- buckets of other clients and sessions with what they have written.
pub record LeavesOthers (old : ServerState Shelf) (from : ℕ) (request : Message)
    (new : ServerState Shelf) :
    Type 0 where
  pub stays : ClosedStay old.store new.store
  pub buckets : OthersBucketsStay from request.session old.buckets new.buckets
  pub bytes : OthersBytesStay from request.session old new.store

abbrev pub MessagesLeaveOthers : Type 0
MessagesLeaveOthers =
    (old new : ServerState Shelf) (from now : ℕ) (request : Message) (outcome : Outcome)
    → Serves shelf_calls old from request now outcome new → LeavesOthers old from request new

abbrev pub TicksLeaveClosed : Type 0
TicksLeaveClosed =
    (old new : ServerState Shelf) (now : ℕ) → Ticks old now new → ClosedStay old.store new.store

abbrev pub RestartsLeaveClosed : Type 0
RestartsLeaveClosed =
    (old new : ServerState Shelf) → RestartsTo Restarts old new → ClosedStay old.store new.store

-- What clients have written is as it was where the server's store lets go of other shares, and so
-- are the closed shares.
pub record LeavesWritten (old new : ServerState Shelf) : Type 0 where
  pub stays : ClosedStay old.store new.store
  pub bytes : (id : ShareId) (b : Bucket) → bucket_at id old.buckets ≡ Some b
      → written id new.store.opened ≡ written id old.store.opened

abbrev pub LettingGoLeavesWritten : Type 0
LettingGoLeavesWritten =
    (old new : ServerState Shelf) → LetsGoOfEnded shelf_calls old new → LeavesWritten old new

-- Where a client is forgotten, the buckets of all others stay, and it has none (`without_client`).
pub record LeavesOtherClients (client : ℕ) (old new : List Bucket) : Type 0 where
  pub others : (id : ShareId) (b : Bucket) → bucket_at id old ≡ Some b
      → is_of_another client b ≡ true → bucket_at id new ≡ Some b
  pub none : (id : ShareId) (b : Bucket) → bucket_at id new ≡ Some b
      → is_of_another client b ≡ true

abbrev pub ForgettingLeavesOthers : Type 0
ForgettingLeavesOthers =
    (client : ℕ) (old : List Bucket)
    → LeavesOtherClients client old (filter (is_of_another client) old)

-- ---- the laws of sound servers

-- A sound server stays sound, and keeps its closed shares.
pub record StaysSound (old new : ServerState Shelf) : Type 0 where
  pub stays : ClosedStay old.store new.store
  pub sound : IsSound new

-- what one message does to a sound server over a store that keeps
pub record IsKept (old : ServerState Shelf) (from : ℕ) (request : Message) (outcome : Outcome)
    (new : ServerState Shelf) : Type 0 where
  pub stays : ClosedStay old.store new.store
  pub sound : IsSound new
  pub answers : Answers new.store request outcome
  pub buckets : OthersBucketsStay from request.session old.buckets new.buckets
  pub bytes : OthersBytesStay from request.session old new.store

-- Each message leaves closed shares as they are, and the buckets of others, and is answered by what
-- is so.
abbrev pub MessagesKeep : Type 0
MessagesKeep =
    (old new : ServerState Shelf) (from now : ℕ) (request : Message) (outcome : Outcome)
    → IsSound old → Serves shelf_calls old from request now outcome new
    → IsKept old from request outcome new

abbrev pub TicksKeep : Type 0
TicksKeep =
    (old new : ServerState Shelf) (now : ℕ) → IsSound old → Ticks old now new → StaysSound old new

abbrev pub RestartsKeep : Type 0
RestartsKeep =
    (old new : ServerState Shelf) → IsSound old → RestartsTo Restarts old new → StaysSound old new

abbrev pub ForgettingKeeps : Type 0
ForgettingKeeps =
    (old : ServerState Shelf) (client : ℕ) → IsSound old
    → StaysSound old (without_client client old)

abbrev pub LettingGoKeeps : Type 0
LettingGoKeeps =
    (old new : ServerState Shelf) → IsSound old → LetsGoOfEnded shelf_calls old new
    → StaysSound old new

-- A server is sound from its start on where its closed shares are right.
abbrev pub StartsSound : Type 0
StartsSound =
    (store : Shelf) (capacity : ℕ) (readonly : Bool) → AreRight store.closed
    → IsSound (record {
      store = store;
      buckets = [];
      clock = 0;
      capacity = capacity;
      readonly = readonly;
    })
