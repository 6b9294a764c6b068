-- Closed shares stay as they are, and what others write, whatever a server's state.
use Rattle.std.proofs.Common.{◌≡◌, ℕ, List, Bool, true, false, cond, not, Option, Some, None, Ok, Err, max, refl, ◌∙◌, ap, inl, inr}
use Rattle.std.specs.Prelude.{◌==◌, ◌&&◌, ⊤}
use Rattle.wire.specs.declared.message.Body.{Body}
use Rattle.wire.specs.declared.message.Body.TheVariants.{Ask, Have, Allocate, Granted, Already, Busy, Full, Write, Wrote, WrongOffset, Close, Closed, NotComplete, Abort, Read, Data, NoShare}
use Rattle.wire.specs.declared.message.Message.{Message}
use Rattle.wire.specs.declared.message.ShareId.{ShareId}
use Rattle.share_store.specs.Shelf.{Shelf, closed_at, digest_at, with_closed}
use Rattle.share_store.specs.Calls.{shelf_calls}
use Rattle.server_core.specs.declared.error.ServerFault.TheVariants.{OutOfMemory, StoreFault}
use Rattle.server_core.specs.declared.bucket.Gathered.{Gathered}
use Rattle.server_core.specs.declared.bucket.Gathered.TheVariants.{Part, Whole}
use Rattle.server_core.specs.declared.bucket.Bucket.{Bucket}
use Rattle.server_core.specs.Buckets.{is_owned, bytes_so_far}
use Rattle.server_core.specs.ServerState.{ServerState, Line, Outcome, Does, is_misplaced, allocate_line, write_line, close_line, close_gathered, abort_line, read_line, line_of}
use Rattle.server_core.specs.ServerState.{Silent, Says, Touches, Opens, Ends, ListsHoldings, WritesBytes, ClosesShare, ReadsShare}
use Rattle.server_core.specs.Sound.{ClosedStay, MessagesLeaveOthers, TicksLeaveClosed, RestartsLeaveClosed}
use Rattle.server_core.proofs.Owners.{own_line, others_stay, others_bytes}
use Rattle.server_core.proofs.Kept.{closed_stays}

-- a line closes no share that is closed already
abbrev ClosesNew : ServerState Shelf → Line → Type 0
ClosesNew old (ClosesShare id digest) = digest_at id old.store.closed ≡ None
ClosesNew old Silent = ⊤
ClosesNew old (Says body) = ⊤
ClosesNew old (Touches id body) = ⊤
ClosesNew old (Opens c s id len) = ⊤
ClosesNew old (Ends id) = ⊤
ClosesNew old (ListsHoldings index) = ⊤
ClosesNew old (WritesBytes id b bytes) = ⊤
ClosesNew old (ReadsShare id offset len) = ⊤

new_allocate : (old : ServerState Shelf) (from session : ℕ) (id : ShareId) (len : ℕ) (full : Bool) (told : Option (List ℕ)) (bucket : Option Bucket) → ClosesNew old (allocate_line from session id len full told bucket)
new_allocate old from session id len full (Some digest) bucket = tt
new_allocate old from session id len full None (Some c) = owned (is_owned from session c && (c.length == len)) where
  owned : (yes : Bool) → ClosesNew old (cond yes (Touches id Granted) (Says Busy))
  owned true = tt
  owned false = tt
new_allocate old from session id len true None None = tt
new_allocate old from session id len false None None = tt

new_write : (old : ServerState Shelf) (from session : ℕ) (id : ShareId) (offset : ℕ) (bytes : List ℕ) (told : Option (List ℕ)) (bucket : Option Bucket) → ClosesNew old (write_line from session id offset bytes told bucket)
new_write old from session id offset bytes (Some digest) bucket = tt
new_write old from session id offset bytes None None = tt
new_write old from session id offset bytes None (Some c) = owned (not (is_owned from session c)) (is_misplaced offset bytes c) where
  owned : (no misplaced : Bool) → ClosesNew old (cond no (Says NoShare) (cond misplaced (Touches id (WrongOffset (bytes_so_far c))) (WritesBytes id c bytes)))
  owned true misplaced = tt
  owned false true = tt
  owned false false = tt

new_close : (old : ServerState Shelf) (from session : ℕ) (id : ShareId) (told : Option (List ℕ)) (bucket : Option Bucket) → digest_at id old.store.closed ≡ told → ClosesNew old (close_line from session id told bucket)
new_close old from session id (Some digest) bucket e = tt
new_close old from session id None None e = tt
new_close old from session id None (Some c) e = owned (not (is_owned from session c)) where
  whole : (g : Gathered) → ClosesNew old (close_gathered id g)
  whole (Part count hasher) = tt
  whole (Whole digest) = e

  owned : (no : Bool) → ClosesNew old (cond no (Says NoShare) (close_gathered id c.gathered))
  owned true = tt
  owned false = whole c.gathered

new_abort : (old : ServerState Shelf) (from session : ℕ) (id : ShareId) (bucket : Option Bucket) → ClosesNew old (abort_line from session id bucket)
new_abort old from session id None = tt
new_abort old from session id (Some c) = owned (is_owned from session c) where
  owned : (yes : Bool) → ClosesNew old (cond yes (Ends id) (Says NoShare))
  owned true = tt
  owned false = tt

new_read : (old : ServerState Shelf) (id : ShareId) (offset len : ℕ) (told : Option (List ℕ)) → ClosesNew old (read_line id offset len told)
new_read old id offset len (Some digest) = tt
new_read old id offset len None = tt

closes_new : (old : ServerState Shelf) (from session : ℕ) (body : Body) → ClosesNew old (line_of shelf_calls old from session body)
closes_new old from session (Ask index) = tt
closes_new old from session (Allocate id len) = new_allocate old from session id len _ _ _
closes_new old from session (Write id offset bytes) = new_write old from session id offset bytes _ _
closes_new old from session (Close id) = new_close old from session id _ _ refl
closes_new old from session (Abort id) = new_abort old from session id _
closes_new old from session (Read id offset len) = new_read old id offset len _
closes_new old from session (Have readonly found) = tt
closes_new old from session Granted = tt
closes_new old from session (Already digest) = tt
closes_new old from session Busy = tt
closes_new old from session Full = tt
closes_new old from session (Wrote next) = tt
closes_new old from session (WrongOffset count) = tt
closes_new old from session (Closed digest) = tt
closes_new old from session (NotComplete count) = tt
closes_new old from session (Data bytes) = tt
closes_new old from session NoShare = tt

-- ---- what the lines leave

same_store : (old new : Shelf) → new ≡ old → ClosedStay old new
same_store old new e id c h = ap (λ (s : Shelf). closed_at id s.closed) e ∙ h

pub same_closed : (old new : Shelf) → new.closed ≡ old.closed → ClosedStay old new
same_closed old new e id c h = ap (closed_at id) e ∙ h

one_more : (old new : Shelf) (id : ShareId) (digest : List ℕ) → digest_at id old.closed ≡ None → new.closed ≡ with_closed old id digest → ClosedStay old new
one_more old new id digest none e other c h = ap (closed_at other) e ∙ closed_stays old id digest none other c h

stays_by : (old new : ServerState Shelf) (line : Line) (t : ℕ) (m : Message) (outcome : Outcome) → ClosesNew old line → Does shelf_calls line t old m outcome new → ClosedStay old.store new.store
stays_by old new Silent t m (Ok None) none d = same_store old.store new.store d.store
stays_by old new Silent t m (Ok (Some r)) none d = absurd d
stays_by old new Silent t m (Err e) none d = absurd d
stays_by old new (Says body) t m (Ok (Some r)) none d = same_store old.store new.store d.after.store
stays_by old new (Says body) t m (Ok None) none d = absurd d
stays_by old new (Says body) t m (Err e) none d = absurd d
stays_by old new (Touches id body) t m (Ok (Some r)) none d = same_store old.store new.store d.after.store
stays_by old new (Touches id body) t m (Ok None) none d = absurd d
stays_by old new (Touches id body) t m (Err e) none d = absurd d
stays_by old new (Opens c s id len) t m (Ok (Some r)) none d = same_store old.store new.store d.after.store
stays_by old new (Opens c s id len) t m (Err OutOfMemory) none d = same_store old.store new.store d.store
stays_by old new (Opens c s id len) t m (Err StoreFault) none d = absurd d
stays_by old new (Opens c s id len) t m (Ok None) none d = absurd d
stays_by old new (Ends id) t m (Ok (Some r)) none d = same_store old.store new.store d.after.store
stays_by old new (Ends id) t m (Ok None) none d = absurd d
stays_by old new (Ends id) t m (Err e) none d = absurd d
stays_by old new (ListsHoldings index) t m (Ok (Some r)) none d = same_store old.store new.store d.listed.1
stays_by old new (ListsHoldings index) t m (Err OutOfMemory) none d = same_store old.store new.store d.call
stays_by old new (ListsHoldings index) t m (Err StoreFault) none d = same_store old.store new.store d.call
stays_by old new (ListsHoldings index) t m (Ok None) none d = absurd d
stays_by old new (WritesBytes id b bytes) t m (Ok (Some r)) none d = same_closed old.store new.store d.written.2
stays_by old new (WritesBytes id b bytes) t m (Err OutOfMemory) none d = same_store old.store new.store d.call
stays_by old new (WritesBytes id b bytes) t m (Err StoreFault) none d = same_closed old.store new.store d.call.1
stays_by old new (WritesBytes id b bytes) t m (Ok None) none d = absurd d
stays_by old new (ClosesShare id digest) t m (Ok (Some r)) none d = one_more old.store new.store id digest none d.closed.0
stays_by old new (ClosesShare id digest) t m (Err OutOfMemory) none d = same_store old.store new.store d.call
stays_by old new (ClosesShare id digest) t m (Err StoreFault) none d = elim d.call.0 [ inl closed ↦ one_more old.store new.store id digest none closed | inr same ↦ same_closed old.store new.store same ]
stays_by old new (ClosesShare id digest) t m (Ok None) none d = absurd d
stays_by old new (ReadsShare id offset len) t m (Ok (Some r)) none d = same_store old.store new.store d.read.1
stays_by old new (ReadsShare id offset len) t m (Err OutOfMemory) none d = same_store old.store new.store d.call
stays_by old new (ReadsShare id offset len) t m (Err StoreFault) none d = same_store old.store new.store d.call
stays_by old new (ReadsShare id offset len) t m (Ok None) none d = absurd d

pub messages_leave_others : MessagesLeaveOthers
messages_leave_others old new from now m outcome d =
    let own = own_line shelf_calls old from m.session m.body in
    record {
      stays = stays_by old new (line_of shelf_calls old from m.session m.body) (max old.clock now) m outcome (closes_new old from m.session m.body) d.does;
      buckets = others_stay shelf_calls old new _ (max old.clock now) from m outcome own d.does;
      bytes = others_bytes old new _ (max old.clock now) from m outcome own d.does;
    }

pub ticks_leave_closed : TicksLeaveClosed
ticks_leave_closed old new now d = same_store old.store new.store d.after.store

pub restarts_leave_closed : RestartsLeaveClosed
restarts_leave_closed old new d = same_closed old.store new.store d.store
