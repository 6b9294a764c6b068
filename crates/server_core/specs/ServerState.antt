-- The server machine: the first line of its table that fits a message, and what that line does.
use Rattle.std.specs.Prelude.{◌≡◌, ℕ, ◌+◌, ◌-◌, ◌==◌, ◌||◌, ◌&&◌, not, nat_lt, nat_le, max, List}
use Rattle.std.specs.Prelude.{[], ◌∷◌, ◌++◌, Bool, Option, Some, None, Result, Ok, Err}
use Rattle.std.specs.Prelude.{if◌then◌else◌, length, filter}
use Rattle.wire.specs.declared.message.Body.{Body}
use Rattle.wire.specs.declared.message.Body.TheVariants.{Ask, Have, Allocate, Granted, Already}
use Rattle.wire.specs.declared.message.Body.TheVariants.{Busy, Full, Write, Wrote, WrongOffset}
use Rattle.wire.specs.declared.message.Body.TheVariants.{Close, Closed, NotComplete, Abort, Read}
use Rattle.wire.specs.declared.message.Body.TheVariants.{Data, NoShare}
use Rattle.wire.specs.declared.message.Message.{Message}
use Rattle.wire.specs.declared.message.ShareId.{ShareId}
use Rattle.wire.specs.declared.message.HeldShare.{HeldShare}
use Rattle.share_store.specs.declared.error.StoreError.TheVariants as stores
use Rattle.server_core.specs.declared.error.ServerFault.{ServerFault}
use Rattle.server_core.specs.declared.error.ServerFault.TheVariants.{OutOfMemory, StoreFault}
use Rattle.server_core.specs.declared.bucket.Gathered.{Gathered}
use Rattle.server_core.specs.declared.bucket.Gathered.TheVariants.{Part, Whole}
use Rattle.server_core.specs.declared.bucket.Bucket.{Bucket}
use Rattle.share_store.specs.Calls.{Calls}
use Rattle.server_core.specs.Limits.{idle_limit, most_buckets}
use Rattle.server_core.specs.Buckets.{GoesOn, IsFresh, is_owned, touched, with_bytes, bytes_so_far}
use Rattle.server_core.specs.Buckets.{bucket_at, changed, ended, is_of_another, promised}

-- a server's state, over the states of its store
pub record ServerState (S : Type 0) : Type 0 where
  pub store : S
  pub buckets : List Bucket
  pub clock : ℕ
  pub capacity : ℕ
  pub readonly : Bool

-- ---- the table

-- what one line does
pub data Line : Type 0 where
  -- nothing
  Silent : Line
  -- an answer, no change
  Says : Body → Line
  -- an answer, and the bucket is touched
  Touches : ShareId → Body → Line
  -- an empty bucket of a client, session, share and length
  Opens : ℕ → ℕ → ShareId → ℕ → Line
  -- the bucket ends
  Ends : ShareId → Line
  -- the calls of the store
  ListsHoldings : List ℕ → Line
  WritesBytes : ShareId → Bucket → List ℕ → Line
  ClosesShare : ShareId → List ℕ → Line
  ReadsShare : ShareId → ℕ → ℕ → Line

-- no room for a share of this length
abbrev pub is_full : {S : Type 0} → Calls S → ServerState S → ℕ → Bool
is_full calls s len =
    s.readonly || nat_le most_buckets (length s.buckets)
    || nat_lt (s.capacity - calls.used s.store - promised s.buckets) len

abbrev pub allocate_line : ℕ → ℕ → ShareId → ℕ → Bool → Option (List ℕ) → Option Bucket → Line
allocate_line from session id len full (Some digest) bucket = Says (Already digest)
allocate_line from session id len full None (Some b) =
    if is_owned from session b && (b.length == len) then Touches id Granted else Says Busy
allocate_line from session id len full None None =
    if full then Says Full else Opens from session id len

-- the bytes do not begin at those so far, or pass the end
abbrev pub is_misplaced : ℕ → List ℕ → Bucket → Bool
is_misplaced offset bytes b =
    not (offset == bytes_so_far b) || nat_lt b.length (offset + length bytes)

abbrev pub write_line : ℕ → ℕ → ShareId → ℕ → List ℕ → Option (List ℕ) → Option Bucket → Line
write_line from session id offset bytes (Some digest) bucket = Says (Already digest)
write_line from session id offset bytes None None = Says NoShare
write_line from session id offset bytes None (Some b) =
    if not (is_owned from session b)
    then Says NoShare
    else (if is_misplaced offset bytes b
    then Touches id (WrongOffset (bytes_so_far b))
    else WritesBytes id b bytes)

-- a part has fewer bytes than its share
abbrev pub close_gathered : ShareId → Gathered → Line
close_gathered id (Part count hasher) = Touches id (NotComplete count)
close_gathered id (Whole digest) = ClosesShare id digest

abbrev pub close_line : ℕ → ℕ → ShareId → Option (List ℕ) → Option Bucket → Line
close_line from session id (Some digest) bucket = Says (Closed digest)
close_line from session id None None = Says NoShare
close_line from session id None (Some b) =
    if not (is_owned from session b) then Says NoShare else close_gathered id b.gathered

abbrev pub abort_line : ℕ → ℕ → ShareId → Option Bucket → Line
abort_line from session id None = Says NoShare
abort_line from session id (Some b) = if is_owned from session b then Ends id else Says NoShare

abbrev pub read_line : ShareId → ℕ → ℕ → Option (List ℕ) → Line
read_line id offset len (Some digest) = ReadsShare id offset len
read_line id offset len None = Says NoShare

-- the first line that fits a message of a client and session
abbrev pub line_of : {S : Type 0} → Calls S → ServerState S → ℕ → ℕ → Body → Line
line_of calls s from session (Ask index) = ListsHoldings index
line_of calls s from session (Allocate id len) =
    allocate_line from session id len (is_full calls s len) (calls.told s.store id)
    (bucket_at id s.buckets)
line_of calls s from session (Write id offset bytes) =
    write_line from session id offset bytes (calls.told s.store id) (bucket_at id s.buckets)
line_of calls s from session (Close id) =
    close_line from session id (calls.told s.store id) (bucket_at id s.buckets)
line_of calls s from session (Abort id) = abort_line from session id (bucket_at id s.buckets)
line_of calls s from session (Read id offset len) =
    read_line id offset len (calls.told s.store id)
line_of calls s from session (Have readonly held) = Silent
line_of calls s from session Granted = Silent
line_of calls s from session (Already digest) = Silent
line_of calls s from session Busy = Silent
line_of calls s from session Full = Silent
line_of calls s from session (Wrote next) = Silent
line_of calls s from session (WrongOffset written) = Silent
line_of calls s from session (Closed digest) = Silent
line_of calls s from session (NotComplete written) = Silent
line_of calls s from session (Data bytes) = Silent
line_of calls s from session NoShare = Silent

-- ---- what the lines do: from a machine to a machine, with an answer

-- an answer repeats the request's session and number
abbrev pub reply_to : Message → Body → Message
reply_to m body = record { session = m.session; number = m.number; body = body }

-- the same store, and these buckets
pub record HasBuckets {S : Type 0} (old : ServerState S) (left : List Bucket)
    (new : ServerState S) : Type 0
  where
    pub store : new.store ≡ old.store
    pub buckets : new.buckets ≡ left

-- this answer, the same store, and these buckets
pub record Replies {S : Type 0} (old : ServerState S) (m : Message) (body : Body)
    (left : List Bucket)
    (r : Message) (new : ServerState S) : Type 0 where
  pub answer : r ≡ reply_to m body
  pub after : HasBuckets old left new

-- a new bucket
pub record HasOpened {S : Type 0} (client session : ℕ) (id : ShareId) (len now : ℕ)
    (old : ServerState S) (m r : Message) (new : ServerState S) : Type 0 where
  pub bucket : Bucket
  pub fresh : IsFresh client session id len now bucket
  pub answer : r ≡ reply_to m Granted
  pub after : HasBuckets old (old.buckets ++ bucket ∷ []) new

-- what the store listed
pub record HasListed {S : Type 0} (calls : Calls S) (index : List ℕ) (old : ServerState S)
    (m r : Message) (new : ServerState S) : Type 0 where
  pub found : List HeldShare
  pub listed : calls.list_gives old.store index (Ok found) new.store
  pub answer : r ≡ reply_to m (Have old.readonly found)
  pub buckets : new.buckets ≡ old.buckets

-- the store wrote, and the bucket has the bytes and is touched
pub record HasWritten {S : Type 0} (calls : Calls S) (id : ShareId) (b : Bucket) (bytes : List ℕ)
    (now : ℕ) (old : ServerState S) (m r : Message) (new : ServerState S) : Type 0 where
  pub gathered : Gathered
  pub goes_on : GoesOn b.length bytes b.gathered gathered
  pub written : calls.write_gives old.store id (bytes_so_far b) bytes (Ok tt) new.store
  pub answer : r ≡ reply_to m (Wrote (bytes_so_far b + length bytes))
  pub buckets : new.buckets ≡ changed id (with_bytes now gathered) old.buckets

-- the store closed, and the bucket ends
pub record HasClosed {S : Type 0} (calls : Calls S) (id : ShareId) (digest : List ℕ)
    (old : ServerState S) (m r : Message) (new : ServerState S) : Type 0 where
  pub closed : calls.close_gives old.store id digest (Ok tt) new.store
  pub answer : r ≡ reply_to m (Closed digest)
  pub buckets : new.buckets ≡ ended id old.buckets

-- what the store read
pub record HasRead {S : Type 0} (calls : Calls S) (id : ShareId) (offset len : ℕ)
    (old : ServerState S)
    (m r : Message) (new : ServerState S) : Type 0 where
  pub bytes : List ℕ
  pub read : calls.read_gives old.store id offset len (Ok bytes) new.store
  pub answer : r ≡ reply_to m (Data bytes)
  pub buckets : new.buckets ≡ old.buckets

-- a call of the store failed, and these buckets are left
pub record HasFailed {S : Type 0} (gives : S → Type 0) (left : List Bucket) (new : ServerState S) :
    Type 0 where
  pub call : gives new.store
  pub buckets : new.buckets ≡ left

abbrev pub Outcome : Type 0
Outcome = Result (Option Message) ServerFault

-- what a line does at a time, with the answer or the fault that it gives
abbrev pub Does : {S : Type 0} → Calls S → Line → ℕ → ServerState S → Message → Outcome
    → ServerState S
    → Type 0
Does calls Silent now old m (Ok None) new = HasBuckets old old.buckets new
Does calls (Says body) now old m (Ok (Some r)) new = Replies old m body old.buckets r new
Does calls (Touches id body) now old m (Ok (Some r)) new =
    Replies old m body (changed id (touched now) old.buckets) r new
Does calls (Opens client session id len) now old m (Ok (Some r)) new =
    HasOpened client session id len now old m r new
Does calls (Opens client session id len) now old m (Err OutOfMemory) new =
    HasBuckets old old.buckets new
Does calls (Ends id) now old m (Ok (Some r)) new =
    Replies old m NoShare (ended id old.buckets) r new
Does calls (ListsHoldings index) now old m (Ok (Some r)) new = HasListed calls index old m r new
Does calls (ListsHoldings index) now old m (Err OutOfMemory) new =
    HasFailed (calls.list_gives old.store index (Err stores.OutOfMemory)) old.buckets new
Does calls (ListsHoldings index) now old m (Err StoreFault) new =
    HasFailed (calls.list_gives old.store index (Err stores.StoreFault)) old.buckets new
Does calls (WritesBytes id b bytes) now old m (Ok (Some r)) new =
    HasWritten calls id b bytes now old m r new
Does calls (WritesBytes id b bytes) now old m (Err OutOfMemory) new =
    HasFailed (calls.write_gives old.store id (bytes_so_far b) bytes (Err stores.OutOfMemory))
    old.buckets new
Does calls (WritesBytes id b bytes) now old m (Err StoreFault) new =
    HasFailed (calls.write_gives old.store id (bytes_so_far b) bytes (Err stores.StoreFault))
    (ended id old.buckets) new
Does calls (ClosesShare id digest) now old m (Ok (Some r)) new =
    HasClosed calls id digest old m r new
Does calls (ClosesShare id digest) now old m (Err OutOfMemory) new =
    HasFailed (calls.close_gives old.store id digest (Err stores.OutOfMemory)) old.buckets new
Does calls (ClosesShare id digest) now old m (Err StoreFault) new =
    HasFailed (calls.close_gives old.store id digest (Err stores.StoreFault))
    (ended id old.buckets) new
Does calls (ReadsShare id offset len) now old m (Ok (Some r)) new =
    HasRead calls id offset len old m r new
Does calls (ReadsShare id offset len) now old m (Err OutOfMemory) new =
    HasFailed (calls.read_gives old.store id offset len (Err stores.OutOfMemory)) old.buckets new
Does calls (ReadsShare id offset len) now old m (Err StoreFault) new =
    HasFailed (calls.read_gives old.store id offset len (Err stores.StoreFault)) old.buckets new
Does calls line now old m outcome new = ⊥

-- the capacity stays, and whether shares are taken
pub record KeepsTerms {S : Type 0} (old new : ServerState S) : Type 0 where
  pub capacity : new.capacity ≡ old.capacity
  pub readonly : new.readonly ≡ old.readonly

-- Without memory the time stays too.
abbrev pub clock_after : ℕ → ℕ → Outcome → ℕ
clock_after before now (Ok answer) = now
clock_after before now (Err OutOfMemory) = before
clock_after before now (Err StoreFault) = now

-- one message from a client at a time; time does not go back
pub record Serves {S : Type 0} (calls : Calls S) (old : ServerState S) (from : ℕ) (m : Message)
    (now : ℕ) (outcome : Outcome) (new : ServerState S) : Type 0 where
  pub does : Does calls (line_of calls old from m.session m.body) (max old.clock now) old m outcome
      new
  pub clock : new.clock ≡ clock_after old.clock (max old.clock now) outcome
  pub terms : KeepsTerms old new

-- ---- ticks and restarts

abbrev pub is_fresh_at : ℕ → Bucket → Bool
is_fresh_at now b = nat_lt (now - b.touched) idle_limit

pub record Ticks {S : Type 0} (old : ServerState S) (now : ℕ) (new : ServerState S) : Type 0 where
  pub after : HasBuckets old (filter (is_fresh_at (max old.clock now)) old.buckets) new
  pub clock : new.clock ≡ max old.clock now
  pub terms : KeepsTerms old new

-- a restart forgets the open buckets
pub record RestartsTo {S : Type 0} (restart_gives : S → S → Type 0)
    (old new : ServerState S) : Type 0
  where
    pub store : restart_gives old.store new.store
    pub buckets : new.buckets ≡ []
    pub clock : new.clock ≡ old.clock
    pub terms : KeepsTerms old new

-- ---- buckets that end with no close

-- A client is gone: its buckets end, as if it had given up each of them.
abbrev pub without_client : {S : Type 0} → ℕ → ServerState S → ServerState S
without_client client s =
    record {
      store = s.store;
      buckets = filter (is_of_another client) s.buckets;
      clock = s.clock;
      capacity = s.capacity;
      readonly = s.readonly;
    }

-- The store lets go of these shares, one after the other, and none of them has a bucket.
abbrev pub LetsGoOf : {S : Type 0} → Calls S → List Bucket → List ShareId → S → S → Type 0
LetsGoOf calls buckets [] old new = new ≡ old
LetsGoOf {S} calls buckets (id ∷ ids) old new =
    (mid : S) × (bucket_at id buckets ≡ None) × calls.let_go_gives old id mid
    × LetsGoOf calls buckets ids mid new

-- The store lets go of shares that have no bucket. All else is as it was.
pub record LetsGoOfEnded {S : Type 0} (calls : Calls S) (old new : ServerState S) : Type 0 where
  pub ids : List ShareId
  pub store : LetsGoOf calls old.buckets ids old.store new.store
  pub buckets : new.buckets ≡ old.buckets
  pub clock : new.clock ≡ old.clock
  pub terms : KeepsTerms old new

-- ---- words of private clauses

-- a body or a fault, as the outcome of a message
abbrev pub outcome_of : Message → Result Body ServerFault → Outcome
outcome_of m (Ok body) = Ok (Some (reply_to m body))
outcome_of m (Err fault) = Err fault

-- what a line does for any message: it answers with a body
abbrev pub DoesFor : {S : Type 0} → Calls S → Line → ℕ → ServerState S → Result Body ServerFault
    → ServerState S → Type 0
DoesFor calls line now old result new =
    (m : Message) → Does calls line now old m (outcome_of m result) new
