-- A bucket is changed for its owner alone.
use Rattle.std.proofs.Common.{◌≡◌, ℕ, ◌+◌, List, [], ◌∷◌, ◌++◌, Bool, true, false, cond, not, Option, Some, None, Ok, Err, length, refl, sym, ◌∙◌, ap, subst}
use Rattle.std.specs.Prelude.{◌==◌, ◌&&◌, ◌||◌, nat_lt}
use Rattle.lemmas.proofs.Bools.{both}
use Rattle.wire.specs.declared.message.Body.{Body}
use Rattle.wire.specs.declared.message.Body.TheVariants.{Ask, Have, Allocate, Granted, Already, Busy, Full, Write, Wrote, WrongOffset, Close, Closed, NotComplete, Abort, Read, Data, NoShare}
use Rattle.wire.specs.declared.message.Message.{Message}
use Rattle.wire.specs.declared.message.ShareId.{ShareId}
use Rattle.share_store.specs.Shelf.{Shelf, key_of, written, OthersStay}
use Rattle.server_core.specs.declared.error.ServerFault.TheVariants.{OutOfMemory, StoreFault}
use Rattle.server_core.specs.declared.bucket.Gathered.{Gathered}
use Rattle.server_core.specs.declared.bucket.Gathered.TheVariants.{Part, Whole}
use Rattle.server_core.specs.declared.bucket.Bucket.{Bucket}
use Rattle.server_core.specs.Buckets.{same_id, bucket_at, is_owned, changed, ended, touched, with_bytes, bytes_so_far}
use Rattle.share_store.specs.Calls.{Calls, shelf_calls}
use Rattle.server_core.specs.ServerState.{ServerState, Line, Outcome, Does, allocate_line, write_line, close_line, close_gathered, abort_line, read_line, line_of}
use Rattle.server_core.specs.ServerState.{Silent, Says, Touches, Opens, Ends, ListsHoldings, WritesBytes, ClosesShare, ReadsShare}
use Rattle.server_core.specs.Sound.{Owns, IsOwnLine, OthersBucketsStay, OthersBytesStay}
use Rattle.server_core.proofs.Shares.{same_agrees}
use Rattle.server_core.proofs.Listed.{KeepsId, eq_of_same, other_of, changed_other, ended_other}

-- ---- the table

own_allocate : (from session : ℕ) (bs : List Bucket) (id : ShareId) (len : ℕ) (full : Bool) (told : Option (List ℕ)) (bucket : Option Bucket) → bucket_at id bs ≡ bucket → IsOwnLine from session bs (allocate_line from session id len full told bucket)
own_allocate from session bs id len full (Some digest) bucket e = tt
own_allocate from session bs id len full None (Some c) e = owned (is_owned from session c && (c.length == len)) refl where
  owned : (yes : Bool) → (is_owned from session c && (c.length == len)) ≡ yes → IsOwnLine from session bs (cond yes (Touches id Granted) (Says Busy))
  owned true is = (c, e, (both _ _ is).0)
  owned false is = tt
own_allocate from session bs id len true None None e = tt
own_allocate from session bs id len false None None e = e

own_write : (from session : ℕ) (bs : List Bucket) (id : ShareId) (offset : ℕ) (bytes : List ℕ) (told : Option (List ℕ)) (bucket : Option Bucket) → bucket_at id bs ≡ bucket → IsOwnLine from session bs (write_line from session id offset bytes told bucket)
own_write from session bs id offset bytes (Some digest) bucket e = tt
own_write from session bs id offset bytes None None e = tt
own_write from session bs id offset bytes None (Some c) e = owned (is_owned from session c) refl where
  fits : is_owned from session c ≡ true → (no : Bool) → IsOwnLine from session bs (cond no (Touches id (WrongOffset (bytes_so_far c))) (WritesBytes id c bytes))
  fits is true = (c, e, is)
  fits is false = (c, e, is)

  owned : (yes : Bool) → is_owned from session c ≡ yes → IsOwnLine from session bs (cond (not yes) (Says NoShare) (cond (not (offset == bytes_so_far c) || nat_lt c.length (offset + length bytes)) (Touches id (WrongOffset (bytes_so_far c))) (WritesBytes id c bytes)))
  owned true is = fits is (not (offset == bytes_so_far c) || nat_lt c.length (offset + length bytes))
  owned false is = tt

own_close : (from session : ℕ) (bs : List Bucket) (id : ShareId) (told : Option (List ℕ)) (bucket : Option Bucket) → bucket_at id bs ≡ bucket → IsOwnLine from session bs (close_line from session id told bucket)
own_close from session bs id (Some digest) bucket e = tt
own_close from session bs id None None e = tt
own_close from session bs id None (Some c) e = owned (is_owned from session c) refl where
  whole : is_owned from session c ≡ true → (g : Gathered) → IsOwnLine from session bs (close_gathered id g)
  whole is (Part count hasher) = (c, e, is)
  whole is (Whole digest) = (c, e, is)

  owned : (yes : Bool) → is_owned from session c ≡ yes → IsOwnLine from session bs (cond (not yes) (Says NoShare) (close_gathered id c.gathered))
  owned true is = whole is c.gathered
  owned false is = tt

own_abort : (from session : ℕ) (bs : List Bucket) (id : ShareId) (bucket : Option Bucket) → bucket_at id bs ≡ bucket → IsOwnLine from session bs (abort_line from session id bucket)
own_abort from session bs id None e = tt
own_abort from session bs id (Some c) e = owned (is_owned from session c) refl where
  owned : (yes : Bool) → is_owned from session c ≡ yes → IsOwnLine from session bs (cond yes (Ends id) (Says NoShare))
  owned true is = (c, e, is)
  owned false is = tt

own_read : (from session : ℕ) (bs : List Bucket) (id : ShareId) (offset len : ℕ) (told : Option (List ℕ)) → IsOwnLine from session bs (read_line id offset len told)
own_read from session bs id offset len (Some digest) = tt
own_read from session bs id offset len None = tt

-- each line is one of the owner's
pub own_line : {S : Type 0} (calls : Calls S) (old : ServerState S) (from session : ℕ) (body : Body) → IsOwnLine from session old.buckets (line_of calls old from session body)
own_line calls old from session (Ask index) = tt
own_line calls old from session (Allocate id len) = own_allocate from session old.buckets id len _ _ _ refl
own_line calls old from session (Write id offset bytes) = own_write from session old.buckets id offset bytes _ _ refl
own_line calls old from session (Close id) = own_close from session old.buckets id _ _ refl
own_line calls old from session (Abort id) = own_abort from session old.buckets id _ refl
own_line calls old from session (Read id offset len) = own_read from session old.buckets id offset len _
own_line calls old from session (Have readonly found) = tt
own_line calls old from session Granted = tt
own_line calls old from session (Already digest) = tt
own_line calls old from session Busy = tt
own_line calls old from session Full = tt
own_line calls old from session (Wrote next) = tt
own_line calls old from session (WrongOffset count) = tt
own_line calls old from session (Closed digest) = tt
own_line calls old from session (NotComplete count) = tt
own_line calls old from session (Data bytes) = tt
own_line calls old from session NoShare = tt

-- ---- what the lines leave

-- the share of a line of one's own is not that of another's bucket
not_mine : (from session : ℕ) (bs : List Bucket) (id other : ShareId) (b : Bucket) → Owns from session id bs → bucket_at other bs ≡ Some b → is_owned from session b ≡ false → same_id other id ≡ false
not_mine from session bs id other b own at not_own = by (same_id other id) refl
  where
    by : (same : Bool) → same_id other id ≡ same → same ≡ false
    by false is = refl
    by true is =
        let here : bucket_at id bs ≡ Some b = subst (λ (i : ShareId). bucket_at i bs ≡ Some b) (eq_of_same other id is) at in
        let it : Some own.0 ≡ Some b = sym own.1 ∙ here in
        let same : own.0 ≡ b = cc in
        let mine : is_owned from session b ≡ true = subst (λ (x : Bucket). is_owned from session x ≡ true) same own.2 in
        absurd cc

found_push : (other : ShareId) (bs : List Bucket) (x b : Bucket) → bucket_at other bs ≡ Some b → bucket_at other (bs ++ x ∷ []) ≡ Some b
found_push other [] x b e = absurd cc
found_push other (c ∷ bs) x b e = by (same_id c.id other) (found_push other bs x b) e
  where
    by : (same : Bool) → (bucket_at other bs ≡ Some b → bucket_at other (bs ++ x ∷ []) ≡ Some b) → cond same (Some c) (bucket_at other bs) ≡ Some b → cond same (Some c) (bucket_at other (bs ++ x ∷ [])) ≡ Some b
    by true ih f = f
    by false ih f = ih f

same_buckets : (from session : ℕ) (old new : List Bucket) → new ≡ old → OthersBucketsStay from session old new
same_buckets from session old new e id b at not_own = ap (bucket_at id) e ∙ at

changed_others : (from session : ℕ) (old new : List Bucket) (id : ShareId) (f : Bucket → Bucket) → KeepsId f → Owns from session id old → new ≡ changed id f old → OthersBucketsStay from session old new
changed_others from session old new id f k own e other b at not_own = ap (bucket_at other) e ∙ changed_other id other f old k (not_mine from session old id other b own at not_own) ∙ at

ended_others : (from session : ℕ) (old new : List Bucket) (id : ShareId) → Owns from session id old → new ≡ ended id old → OthersBucketsStay from session old new
ended_others from session old new id own e other b at not_own = ap (bucket_at other) e ∙ ended_other id other old (not_mine from session old id other b own at not_own) ∙ at

-- others' buckets stay, over every store
pub others_stay : {S : Type 0} (calls : Calls S) (old new : ServerState S) (line : Line) (t from : ℕ) (m : Message) (outcome : Outcome) → IsOwnLine from m.session old.buckets line → Does calls line t old m outcome new → OthersBucketsStay from m.session old.buckets new.buckets
others_stay calls old new Silent t from m (Ok None) own d = same_buckets from m.session old.buckets new.buckets d.buckets
others_stay calls old new Silent t from m (Ok (Some r)) own d = absurd d
others_stay calls old new Silent t from m (Err e) own d = absurd d
others_stay calls old new (Says body) t from m (Ok (Some r)) own d = same_buckets from m.session old.buckets new.buckets d.after.buckets
others_stay calls old new (Says body) t from m (Ok None) own d = absurd d
others_stay calls old new (Says body) t from m (Err e) own d = absurd d
others_stay calls old new (Touches id body) t from m (Ok (Some r)) own d = changed_others from m.session old.buckets new.buckets id (touched t) (λ b. refl) own d.after.buckets
others_stay calls old new (Touches id body) t from m (Ok None) own d = absurd d
others_stay calls old new (Touches id body) t from m (Err e) own d = absurd d
others_stay calls old new (Opens c s id len) t from m (Ok (Some r)) own d = λ other b at not_own. ap (bucket_at other) d.after.buckets ∙ found_push other old.buckets d.bucket b at
others_stay calls old new (Opens c s id len) t from m (Err OutOfMemory) own d = same_buckets from m.session old.buckets new.buckets d.buckets
others_stay calls old new (Opens c s id len) t from m (Err StoreFault) own d = absurd d
others_stay calls old new (Opens c s id len) t from m (Ok None) own d = absurd d
others_stay calls old new (Ends id) t from m (Ok (Some r)) own d = ended_others from m.session old.buckets new.buckets id own d.after.buckets
others_stay calls old new (Ends id) t from m (Ok None) own d = absurd d
others_stay calls old new (Ends id) t from m (Err e) own d = absurd d
others_stay calls old new (ListsHoldings index) t from m (Ok (Some r)) own d = same_buckets from m.session old.buckets new.buckets d.buckets
others_stay calls old new (ListsHoldings index) t from m (Err OutOfMemory) own d = same_buckets from m.session old.buckets new.buckets d.buckets
others_stay calls old new (ListsHoldings index) t from m (Err StoreFault) own d = same_buckets from m.session old.buckets new.buckets d.buckets
others_stay calls old new (ListsHoldings index) t from m (Ok None) own d = absurd d
others_stay calls old new (WritesBytes id b bytes) t from m (Ok (Some r)) own d = changed_others from m.session old.buckets new.buckets id (with_bytes t d.gathered) (λ x. refl) own d.buckets
others_stay calls old new (WritesBytes id b bytes) t from m (Err OutOfMemory) own d = same_buckets from m.session old.buckets new.buckets d.buckets
others_stay calls old new (WritesBytes id b bytes) t from m (Err StoreFault) own d = ended_others from m.session old.buckets new.buckets id own d.buckets
others_stay calls old new (WritesBytes id b bytes) t from m (Ok None) own d = absurd d
others_stay calls old new (ClosesShare id digest) t from m (Ok (Some r)) own d = ended_others from m.session old.buckets new.buckets id own d.buckets
others_stay calls old new (ClosesShare id digest) t from m (Err OutOfMemory) own d = same_buckets from m.session old.buckets new.buckets d.buckets
others_stay calls old new (ClosesShare id digest) t from m (Err StoreFault) own d = ended_others from m.session old.buckets new.buckets id own d.buckets
others_stay calls old new (ClosesShare id digest) t from m (Ok None) own d = absurd d
others_stay calls old new (ReadsShare id offset len) t from m (Ok (Some r)) own d = same_buckets from m.session old.buckets new.buckets d.buckets
others_stay calls old new (ReadsShare id offset len) t from m (Err OutOfMemory) own d = same_buckets from m.session old.buckets new.buckets d.buckets
others_stay calls old new (ReadsShare id offset len) t from m (Err StoreFault) own d = same_buckets from m.session old.buckets new.buckets d.buckets
others_stay calls old new (ReadsShare id offset len) t from m (Ok None) own d = absurd d

-- ---- what others have written

same_bytes : (from session : ℕ) (old : ServerState Shelf) (new : Shelf) → new ≡ old.store → OthersBytesStay from session old new
same_bytes from session old new e id b at not_own = ap (λ (t : Shelf). written id t.opened) e

owned_bytes : (from session : ℕ) (old : ServerState Shelf) (new : Shelf) (id : ShareId) → Owns from session id old.buckets → OthersStay id old.store.opened new.opened → OthersBytesStay from session old new
owned_bytes from session old new id own o other b at not_own = o (key_of other) (same_agrees id other ∙ other_of other id (not_mine from session old.buckets id other b own at not_own))

pub others_bytes : (old new : ServerState Shelf) (line : Line) (t from : ℕ) (m : Message) (outcome : Outcome) → IsOwnLine from m.session old.buckets line → Does shelf_calls line t old m outcome new → OthersBytesStay from m.session old new.store
others_bytes old new Silent t from m (Ok None) own d = same_bytes from m.session old new.store d.store
others_bytes old new Silent t from m (Ok (Some r)) own d = absurd d
others_bytes old new Silent t from m (Err e) own d = absurd d
others_bytes old new (Says body) t from m (Ok (Some r)) own d = same_bytes from m.session old new.store d.after.store
others_bytes old new (Says body) t from m (Ok None) own d = absurd d
others_bytes old new (Says body) t from m (Err e) own d = absurd d
others_bytes old new (Touches id body) t from m (Ok (Some r)) own d = same_bytes from m.session old new.store d.after.store
others_bytes old new (Touches id body) t from m (Ok None) own d = absurd d
others_bytes old new (Touches id body) t from m (Err e) own d = absurd d
others_bytes old new (Opens c s id len) t from m (Ok (Some r)) own d = same_bytes from m.session old new.store d.after.store
others_bytes old new (Opens c s id len) t from m (Err OutOfMemory) own d = same_bytes from m.session old new.store d.store
others_bytes old new (Opens c s id len) t from m (Err StoreFault) own d = absurd d
others_bytes old new (Opens c s id len) t from m (Ok None) own d = absurd d
others_bytes old new (Ends id) t from m (Ok (Some r)) own d = same_bytes from m.session old new.store d.after.store
others_bytes old new (Ends id) t from m (Ok None) own d = absurd d
others_bytes old new (Ends id) t from m (Err e) own d = absurd d
others_bytes old new (ListsHoldings index) t from m (Ok (Some r)) own d = same_bytes from m.session old new.store d.listed.1
others_bytes old new (ListsHoldings index) t from m (Err OutOfMemory) own d = same_bytes from m.session old new.store d.call
others_bytes old new (ListsHoldings index) t from m (Err StoreFault) own d = same_bytes from m.session old new.store d.call
others_bytes old new (ListsHoldings index) t from m (Ok None) own d = absurd d
others_bytes old new (WritesBytes id b bytes) t from m (Ok (Some r)) own d = owned_bytes from m.session old new.store id own d.written.1
others_bytes old new (WritesBytes id b bytes) t from m (Err OutOfMemory) own d = same_bytes from m.session old new.store d.call
others_bytes old new (WritesBytes id b bytes) t from m (Err StoreFault) own d = owned_bytes from m.session old new.store id own d.call.0
others_bytes old new (WritesBytes id b bytes) t from m (Ok None) own d = absurd d
others_bytes old new (ClosesShare id digest) t from m (Ok (Some r)) own d = owned_bytes from m.session old new.store id own d.closed.1
others_bytes old new (ClosesShare id digest) t from m (Err OutOfMemory) own d = same_bytes from m.session old new.store d.call
others_bytes old new (ClosesShare id digest) t from m (Err StoreFault) own d = owned_bytes from m.session old new.store id own d.call.1
others_bytes old new (ClosesShare id digest) t from m (Ok None) own d = absurd d
others_bytes old new (ReadsShare id offset len) t from m (Ok (Some r)) own d = same_bytes from m.session old new.store d.read.1
others_bytes old new (ReadsShare id offset len) t from m (Err OutOfMemory) own d = same_bytes from m.session old new.store d.call
others_bytes old new (ReadsShare id offset len) t from m (Err StoreFault) own d = same_bytes from m.session old new.store d.call
others_bytes old new (ReadsShare id offset len) t from m (Ok None) own d = absurd d
