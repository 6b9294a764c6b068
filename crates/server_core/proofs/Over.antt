-- A server over a store that keeps does to the store's shelf what its table says.
use Rattle.std.proofs.Common.{◌≡◌, ℕ, ◌-◌, List, Bool, Option, Some, None, Result, Ok, Err, length, refl, sym, ◌∙◌, ap, subst}
use Rattle.std.specs.Prelude.{◌||◌, nat_lt, nat_le}
use Rattle.wire.specs.declared.message.Body.{Body}
use Rattle.wire.specs.declared.message.Body.TheVariants.{Ask, Have, Allocate, Granted, Already, Busy, Full, Write, Wrote, WrongOffset, Close, Closed, NotComplete, Abort, Read, Data, NoShare}
use Rattle.wire.specs.declared.message.Message.{Message}
use Rattle.share_store.specs.declared.error.StoreError.TheVariants as stores
use Rattle.share_store.specs.Shelf.{Shelf}
use Rattle.server_core.specs.declared.error.ServerFault.TheVariants.{OutOfMemory, StoreFault}
use Rattle.server_core.specs.declared.bucket.Bucket.{Bucket}
use Rattle.server_core.specs.Buckets.{bucket_at, bytes_so_far, promised}
use Rattle.share_store.specs.Calls.{Calls, AreKept, shelf_calls}
use Rattle.server_core.specs.Limits.{most_buckets}
use Rattle.server_core.specs.ServerState.{ServerState, Line, Outcome, Does, Serves, HasBuckets, is_full, allocate_line, write_line, close_line, read_line, line_of}
use Rattle.server_core.specs.ServerState.{Silent, Says, Touches, Opens, Ends, ListsHoldings, WritesBytes, ClosesShare, ReadsShare}
use Rattle.server_core.specs.Sound.{over}

module _ {S : Type 0} (calls : Calls S) (shelf : S → Shelf) (k : AreKept calls shelf) where
  full_same : (old : ServerState S) (len : ℕ) → is_full calls old len ≡ is_full shelf_calls (over shelf old) len
  full_same old len = ap (λ u. old.readonly || nat_le most_buckets (length old.buckets) || nat_lt (old.capacity - u - promised old.buckets) len) (k.sums old.store)

  -- the same line
  line_same : (old : ServerState S) (from session : ℕ) (body : Body) → line_of calls old from session body ≡ line_of shelf_calls (over shelf old) from session body
  line_same old from session (Allocate id len) =
      ap (λ f. allocate_line from session id len f (calls.told old.store id) (bucket_at id old.buckets)) (full_same old len)
      ∙ ap (λ t. allocate_line from session id len (is_full shelf_calls (over shelf old) len) t (bucket_at id old.buckets)) (k.tells old.store id)
  line_same old from session (Write id offset bytes) = ap (λ t. write_line from session id offset bytes t (bucket_at id old.buckets)) (k.tells old.store id)
  line_same old from session (Close id) = ap (λ t. close_line from session id t (bucket_at id old.buckets)) (k.tells old.store id)
  line_same old from session (Read id offset len) = ap (λ t. read_line id offset len t) (k.tells old.store id)
  line_same old from session (Ask index) = refl
  line_same old from session (Abort id) = refl
  line_same old from session (Have readonly found) = refl
  line_same old from session Granted = refl
  line_same old from session (Already digest) = refl
  line_same old from session Busy = refl
  line_same old from session Full = refl
  line_same old from session (Wrote next) = refl
  line_same old from session (WrongOffset count) = refl
  line_same old from session (Closed digest) = refl
  line_same old from session (NotComplete count) = refl
  line_same old from session (Data bytes) = refl
  line_same old from session NoShare = refl

  has_buckets : (old new : ServerState S) (bs : List Bucket) → HasBuckets old bs new → HasBuckets (over shelf old) bs (over shelf new)
  has_buckets old new bs h = record { store = ap shelf h.store; buckets = h.buckets }

  -- which does the same
  does_same : (old new : ServerState S) (line : Line) (t : ℕ) (m : Message) (outcome : Outcome) → Does calls line t old m outcome new → Does shelf_calls line t (over shelf old) m outcome (over shelf new)
  does_same old new Silent t m (Ok None) d = has_buckets old new _ d
  does_same old new Silent t m (Ok (Some r)) d = absurd d
  does_same old new Silent t m (Err e) d = absurd d
  does_same old new (Says body) t m (Ok (Some r)) d = record { answer = d.answer; after = has_buckets old new _ d.after }
  does_same old new (Says body) t m (Ok None) d = absurd d
  does_same old new (Says body) t m (Err e) d = absurd d
  does_same old new (Touches id body) t m (Ok (Some r)) d = record { answer = d.answer; after = has_buckets old new _ d.after }
  does_same old new (Touches id body) t m (Ok None) d = absurd d
  does_same old new (Touches id body) t m (Err e) d = absurd d
  does_same old new (Opens c s id len) t m (Ok (Some r)) d = record { bucket = d.bucket; fresh = d.fresh; answer = d.answer; after = has_buckets old new _ d.after }
  does_same old new (Opens c s id len) t m (Err OutOfMemory) d = has_buckets old new _ d
  does_same old new (Opens c s id len) t m (Err StoreFault) d = absurd d
  does_same old new (Opens c s id len) t m (Ok None) d = absurd d
  does_same old new (Ends id) t m (Ok (Some r)) d = record { answer = d.answer; after = has_buckets old new _ d.after }
  does_same old new (Ends id) t m (Ok None) d = absurd d
  does_same old new (Ends id) t m (Err e) d = absurd d
  does_same old new (ListsHoldings index) t m (Ok (Some r)) d = record { found = d.found; listed = k.lists old.store index (Ok d.found) new.store d.listed; answer = d.answer; buckets = d.buckets }
  does_same old new (ListsHoldings index) t m (Err OutOfMemory) d = record { call = k.lists old.store index (Err stores.OutOfMemory) new.store d.call; buckets = d.buckets }
  does_same old new (ListsHoldings index) t m (Err StoreFault) d = record { call = k.lists old.store index (Err stores.StoreFault) new.store d.call; buckets = d.buckets }
  does_same old new (ListsHoldings index) t m (Ok None) d = absurd d
  does_same old new (WritesBytes id b bytes) t m (Ok (Some r)) d = record { gathered = d.gathered; goes_on = d.goes_on; written = k.writes old.store id (bytes_so_far b) bytes (Ok tt) new.store d.written; answer = d.answer; buckets = d.buckets }
  does_same old new (WritesBytes id b bytes) t m (Err OutOfMemory) d = record { call = k.writes old.store id (bytes_so_far b) bytes (Err stores.OutOfMemory) new.store d.call; buckets = d.buckets }
  does_same old new (WritesBytes id b bytes) t m (Err StoreFault) d = record { call = k.writes old.store id (bytes_so_far b) bytes (Err stores.StoreFault) new.store d.call; buckets = d.buckets }
  does_same old new (WritesBytes id b bytes) t m (Ok None) d = absurd d
  does_same old new (ClosesShare id digest) t m (Ok (Some r)) d = record { closed = k.closes old.store id digest (Ok tt) new.store d.closed; answer = d.answer; buckets = d.buckets }
  does_same old new (ClosesShare id digest) t m (Err OutOfMemory) d = record { call = k.closes old.store id digest (Err stores.OutOfMemory) new.store d.call; buckets = d.buckets }
  does_same old new (ClosesShare id digest) t m (Err StoreFault) d = record { call = k.closes old.store id digest (Err stores.StoreFault) new.store d.call; buckets = d.buckets }
  does_same old new (ClosesShare id digest) t m (Ok None) d = absurd d
  does_same old new (ReadsShare id offset len) t m (Ok (Some r)) d = record { bytes = d.bytes; read = k.reads old.store id offset len (Ok d.bytes) new.store d.read; answer = d.answer; buckets = d.buckets }
  does_same old new (ReadsShare id offset len) t m (Err OutOfMemory) d = record { call = k.reads old.store id offset len (Err stores.OutOfMemory) new.store d.call; buckets = d.buckets }
  does_same old new (ReadsShare id offset len) t m (Err StoreFault) d = record { call = k.reads old.store id offset len (Err stores.StoreFault) new.store d.call; buckets = d.buckets }
  does_same old new (ReadsShare id offset len) t m (Ok None) d = absurd d

  -- so a message is one to a server over the shelf
  pub serves_over : (old new : ServerState S) (from now : ℕ) (m : Message) (outcome : Outcome) → Serves calls old from m now outcome new → Serves shelf_calls (over shelf old) from m now outcome (over shelf new)
  serves_over old new from now m outcome d =
      let t = Rattle.std.proofs.Common.max old.clock now in
      record {
        does = subst (λ (line : Line). Does shelf_calls line t (over shelf old) m outcome (over shelf new)) (line_same old from m.session m.body)
            (does_same old new (line_of calls old from m.session m.body) t m outcome d.does);
        clock = d.clock;
        terms = record { capacity = d.terms.capacity; readonly = d.terms.readonly };
      }
