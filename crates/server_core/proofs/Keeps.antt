-- Each message to a server over a store that keeps leaves closed shares as they are, and is answered by what is so.
use Rattle.std.proofs.Common.{◌≡◌, ◌<◌, ℕ, ◌+◌, List, [], ◌∷◌, ◌++◌, Bool, true, false, cond, not, Option, Some, None, Ok, Err, length, take, drop, max, refl, sym, ◌∙◌, ap, subst, inl, inr, ◌⊎◌, arith}
use Rattle.std.specs.Prelude.{◌==◌, ◌&&◌, ◌||◌, nat_lt, nat_le, All, option_map, unwrap_or}
use Rattle.std.proofs.lemmas.Bool.Decides.{nat_tests}
use Rattle.wire.specs.declared.message.Body.{Body}
use Rattle.wire.specs.declared.message.Body.TheVariants.{Ask, Have, Allocate, Granted, Already, Busy, Full, Write, Wrote, WrongOffset, Close, Closed, NotComplete, Abort, Read, Data, NoShare}
use Rattle.wire.specs.declared.message.Message.{Message}
use Rattle.wire.specs.declared.message.ShareId.{ShareId}
use Rattle.wire.specs.declared.message.HeldShare.{HeldShare}
use Rattle.tagged_hash.specs.TaggedHash.{share_digest}
use Rattle.share_store.specs.declared.shelf.ClosedShare.{ClosedShare}
use Rattle.share_store.specs.Shelf.{Shelf, ShareKey, closed_at, digest_at, written, with_closed}
use Rattle.server_core.specs.declared.error.ServerFault.{ServerFault}
use Rattle.server_core.specs.declared.error.ServerFault.TheVariants.{OutOfMemory, StoreFault}
use Rattle.server_core.specs.declared.bucket.Gathered.{Gathered}
use Rattle.server_core.specs.declared.bucket.Gathered.TheVariants.{Part, Whole}
use Rattle.server_core.specs.declared.bucket.Bucket.{Bucket}
use Rattle.server_core.specs.Buckets.{bucket_at, is_owned, changed, ended, touched, with_bytes, bytes_so_far}
use Rattle.share_store.specs.Calls.{shelf_calls}
use Rattle.server_core.specs.Limits.{most_buckets}
use Rattle.server_core.specs.ServerState.{ServerState, Outcome, Does, HasBuckets, is_full, reply_to, allocate_line, write_line, close_line, close_gathered, abort_line, read_line, line_of, is_fresh_at}
use Rattle.server_core.specs.ServerState.{Silent, Says, Touches, Opens, Ends, ListsHoldings, WritesBytes, ClosesShare, ReadsShare}
use Rattle.server_core.specs.Sound.{ClosedStay, AreRight, AreSound, IsSound, IsWritten, is_request, Tells, IsAnswer, Answers, MessagesKeep, TicksKeep, RestartsKeep, StartsSound}
use Rattle.server_core.proofs.Shares.{listed}
use Rattle.server_core.proofs.Stays.{messages_leave_others, same_closed, ticks_leave_closed, restarts_leave_closed}
use Rattle.server_core.proofs.Kept.{changed_sound, ended_sound, filter_sound, push_sound, grown, others_same, closed_new, closed_stays, closing_sound}

-- closed shares stay, the server is sound, and the answer is so
record Keeps (old : ServerState Shelf) (request : Message) (outcome : Outcome) (new : ServerState Shelf) : Type 0 where
  stays : ClosedStay old.store new.store
  sound : IsSound new
  answers : Answers new.store request outcome

-- the same store, and sound buckets
kept_at : (old new : ServerState Shelf) (bs : List Bucket) (m : Message) (outcome : Outcome) → HasBuckets old bs new → AreSound old.store.closed old.store.opened bs → Answers old.store m outcome → Keeps old m outcome new
kept_at old new bs m outcome h s a = record {
  stays = λ id c e. ap (λ (t : Shelf). closed_at id t.closed) h.store ∙ e;
  sound = subst (λ (t : Shelf). AreSound t.closed t.opened new.buckets) (sym h.store) (subst (λ (x : List Bucket). AreSound old.store.closed old.store.opened x) (sym h.buckets) s);
  answers = subst (λ (t : Shelf). Answers t m outcome) (sym h.store) a;
}

-- the same closed shares, and sound buckets
kept_with : (old new : ServerState Shelf) (bs : List Bucket) (m : Message) (outcome : Outcome) → new.store.closed ≡ old.store.closed → new.buckets ≡ bs → AreSound old.store.closed new.store.opened bs → Answers new.store m outcome → Keeps old m outcome new
kept_with old new bs m outcome e b s a = record {
  stays = same_closed old.store new.store e;
  sound = subst (λ (x : List (ShareKey × ClosedShare)). AreSound x new.store.opened new.buckets) (sym e) (subst (λ (x : List Bucket). AreSound old.store.closed new.store.opened x) (sym b) s);
  answers = a;
}

-- an answer that belongs to its request
answer_is : (s : Shelf) (m : Message) (body : Body) (r : Message) → r ≡ reply_to m body → is_request m.body ≡ true → is_request body ≡ false → Tells s m.body body → IsAnswer s m r
answer_is s m body r e asked kind tells =
    subst (λ (x : Message). IsAnswer s m x) (sym e) (record { session = refl; number = refl; asked = asked; kind = kind; tells = tells })

-- ---- lines that call no store

silent_keep : (old new : ServerState Shelf) (t : ℕ) (m : Message) (outcome : Outcome) → IsSound old → Does shelf_calls Silent t old m outcome new → Keeps old m outcome new
silent_keep old new t m (Ok None) s d = kept_at old new old.buckets m (Ok None) d s tt
silent_keep old new t m (Ok (Some r)) s d = absurd d
silent_keep old new t m (Err e) s d = absurd d

says_keep : (old new : ServerState Shelf) (t : ℕ) (m : Message) (body : Body) (outcome : Outcome) → IsSound old → is_request m.body ≡ true → is_request body ≡ false → Tells old.store m.body body → Does shelf_calls (Says body) t old m outcome new → Keeps old m outcome new
says_keep old new t m body (Ok (Some r)) s asked kind tells d = kept_at old new old.buckets m (Ok (Some r)) d.after s (answer_is old.store m body r d.answer asked kind tells)
says_keep old new t m body (Ok None) s asked kind tells d = absurd d
says_keep old new t m body (Err e) s asked kind tells d = absurd d

touches_keep : (old new : ServerState Shelf) (t : ℕ) (m : Message) (id : ShareId) (body : Body) (outcome : Outcome) → IsSound old → is_request m.body ≡ true → is_request body ≡ false → Tells old.store m.body body → Does shelf_calls (Touches id body) t old m outcome new → Keeps old m outcome new
touches_keep old new t m id body (Ok (Some r)) s asked kind tells d =
    kept_at old new (changed id (touched t) old.buckets) m (Ok (Some r)) d.after
    (changed_sound old.store.closed old.store.opened old.store.opened old.buckets id (touched t) (λ b. refl) (λ other apart. refl) (λ b e. s.gathered id b e) s)
    (answer_is old.store m body r d.answer asked kind tells)
touches_keep old new t m id body (Ok None) s asked kind tells d = absurd d
touches_keep old new t m id body (Err e) s asked kind tells d = absurd d

opens_keep : (old new : ServerState Shelf) (t : ℕ) (m : Message) (client session : ℕ) (id : ShareId) (len : ℕ) (outcome : Outcome) → IsSound old → is_request m.body ≡ true → Tells old.store m.body Granted → bucket_at id old.buckets ≡ None → length old.buckets < most_buckets → Does shelf_calls (Opens client session id len) t old m outcome new → Keeps old m outcome new
opens_keep old new t m client session id len (Ok (Some r)) s asked tells none room d =
    let fresh = d.fresh in
    kept_at old new (old.buckets ++ d.bucket ∷ []) m (Ok (Some r)) d.after
    (push_sound old.store.closed old.store.opened old.buckets d.bucket fresh.empty (subst (λ (i : ShareId). bucket_at i old.buckets ≡ None) (sym fresh.share) none) room s)
    (answer_is old.store m Granted r d.answer asked refl tells)
opens_keep old new t m client session id len (Err OutOfMemory) s asked tells none room d = kept_at old new old.buckets m (Err OutOfMemory) d s tt
opens_keep old new t m client session id len (Err StoreFault) s asked tells none room d = absurd d
opens_keep old new t m client session id len (Ok None) s asked tells none room d = absurd d

ends_keep : (old new : ServerState Shelf) (t : ℕ) (m : Message) (id : ShareId) (outcome : Outcome) → IsSound old → is_request m.body ≡ true → Tells old.store m.body NoShare → Does shelf_calls (Ends id) t old m outcome new → Keeps old m outcome new
ends_keep old new t m id (Ok (Some r)) s asked tells d =
    kept_at old new (ended id old.buckets) m (Ok (Some r)) d.after
    (ended_sound old.store.closed old.store.opened old.store.opened old.buckets id (λ other apart. refl) s)
    (answer_is old.store m NoShare r d.answer asked refl tells)
ends_keep old new t m id (Ok None) s asked tells d = absurd d
ends_keep old new t m id (Err e) s asked tells d = absurd d

-- ---- lines that call the store

-- the same store, with a fault
fault_keep : (old new : ServerState Shelf) (m : Message) (e : ServerFault) → IsSound old → new.store ≡ old.store → new.buckets ≡ old.buckets → Keeps old m (Err e) new
fault_keep old new m e s a b = kept_at old new old.buckets m (Err e) (record { store = a; buckets = b }) s tt

lists_keep : (old new : ServerState Shelf) (t : ℕ) (m : Message) (index : List ℕ) (outcome : Outcome) → IsSound old → m.body ≡ Ask index → Does shelf_calls (ListsHoldings index) t old m outcome new → Keeps old m outcome new
lists_keep old new t m index (Ok (Some r)) s e d =
    let found = d.found in
    let told : All (λ (h : HeldShare). digest_at (record { index = index; share = h.share }) old.store.closed ≡ Some h.digest) found =
    subst (λ (x : List HeldShare). All (λ (h : HeldShare). digest_at (record { index = index; share = h.share }) old.store.closed ≡ Some h.digest) x) (sym d.listed.0) (listed index old.store.closed s.right.rising) in
    kept_at old new old.buckets m (Ok (Some r)) (record { store = d.listed.1; buckets = d.buckets }) s
    (answer_is old.store m (Have old.readonly found) r d.answer (ap is_request e) refl (subst (λ (b : Body). Tells old.store b (Have old.readonly found)) (sym e) told))
lists_keep old new t m index (Err OutOfMemory) s e d = fault_keep old new m OutOfMemory s d.call d.buckets
lists_keep old new t m index (Err StoreFault) s e d = fault_keep old new m StoreFault s d.call d.buckets
lists_keep old new t m index (Ok None) s e d = absurd d

writes_keep : (old new : ServerState Shelf) (t : ℕ) (m : Message) (id : ShareId) (b : Bucket) (bytes : List ℕ) (outcome : Outcome) → IsSound old → bucket_at id old.buckets ≡ Some b → is_request m.body ≡ true → Tells new.store m.body (Wrote (bytes_so_far b + length bytes)) → Does shelf_calls (WritesBytes id b bytes) t old m outcome new → Keeps old m outcome new
writes_keep old new t m id b bytes (Ok (Some r)) s at asked tells d =
    let gathered = d.gathered in
    let writes = d.written in
    let here : (x : Bucket) → bucket_at id old.buckets ≡ Some x → IsWritten (with_bytes t gathered x) (written id new.store.opened) =
    λ x e. let same : b ≡ x = cc in
    subst (λ (y : Bucket). IsWritten (with_bytes t gathered y) (written id new.store.opened)) same
    (inr (grown b.length bytes (written id old.store.opened) (written id new.store.opened) b.gathered gathered d.goes_on (s.gathered id b at) writes.0)) in
    kept_with old new (changed id (with_bytes t gathered) old.buckets) m (Ok (Some r)) writes.2 d.buckets
    (changed_sound old.store.closed old.store.opened new.store.opened old.buckets id (with_bytes t gathered) (λ x. refl) (others_same id old.store.opened new.store.opened writes.1) here s)
    (answer_is new.store m (Wrote (bytes_so_far b + length bytes)) r d.answer asked refl tells)
writes_keep old new t m id b bytes (Err OutOfMemory) s at asked tells d = fault_keep old new m OutOfMemory s d.call d.buckets
writes_keep old new t m id b bytes (Err StoreFault) s at asked tells d =
    kept_with old new (ended id old.buckets) m (Err StoreFault) d.call.1 d.buckets
    (ended_sound old.store.closed old.store.opened new.store.opened old.buckets id (others_same id old.store.opened new.store.opened d.call.0) s) tt
writes_keep old new t m id b bytes (Ok None) s at asked tells d = absurd d

-- one more closed share, and its bucket ended
closed_keep : (old new : ServerState Shelf) (m : Message) (id : ShareId) (digest : List ℕ) (outcome : Outcome) → IsSound old → digest ≡ share_digest (written id old.store.opened) → digest_at id old.store.closed ≡ None → new.store.closed ≡ with_closed old.store id digest → ((other : ShareId) → Rattle.server_core.specs.Buckets.same_id other id ≡ false → written other new.store.opened ≡ written other old.store.opened) → new.buckets ≡ ended id old.buckets → Answers new.store m outcome → Keeps old m outcome new
closed_keep old new m id digest outcome s right none closed others b a = record {
  stays = λ other c e. ap (closed_at other) closed ∙ closed_stays old.store id digest none other c e;
  sound = subst (λ (x : List (ShareKey × ClosedShare)). AreSound x new.store.opened new.buckets) (sym closed)
      (subst (λ (x : List Bucket). AreSound (with_closed old.store id digest) new.store.opened x) (sym b)
      (ended_sound (with_closed old.store id digest) old.store.opened new.store.opened old.buckets id others (closing_sound old.store old.buckets id digest right s)));
  answers = a;
}

closes_keep : (old new : ServerState Shelf) (t : ℕ) (m : Message) (id : ShareId) (digest : List ℕ) (outcome : Outcome) → IsSound old → m.body ≡ Close id → digest ≡ share_digest (written id old.store.opened) → digest_at id old.store.closed ≡ None → Does shelf_calls (ClosesShare id digest) t old m outcome new → Keeps old m outcome new
closes_keep old new t m id digest (Ok (Some r)) s e right none d =
    let closed : new.store.closed ≡ with_closed old.store id digest = d.closed.0 in
    let told : digest_at id new.store.closed ≡ Some digest = ap (digest_at id) closed ∙ ap (option_map (λ (c : ClosedShare). c.digest)) (closed_new old.store id digest) in
    closed_keep old new m id digest (Ok (Some r)) s right none closed (others_same id old.store.opened new.store.opened d.closed.1) d.buckets
    (answer_is new.store m (Closed digest) r d.answer (ap is_request e) refl (subst (λ (b : Body). Tells new.store b (Closed digest)) (sym e) told))
closes_keep old new t m id digest (Err OutOfMemory) s e right none d = fault_keep old new m OutOfMemory s d.call d.buckets
closes_keep old new t m id digest (Err StoreFault) s e right none d = by d.call.0
  where
    others : (other : ShareId) → Rattle.server_core.specs.Buckets.same_id other id ≡ false → written other new.store.opened ≡ written other old.store.opened
    others = others_same id old.store.opened new.store.opened d.call.1

    by : (new.store.closed ≡ with_closed old.store id digest) ⊎ (new.store.closed ≡ old.store.closed) → Keeps old m (Err StoreFault) new
    by (inl closed) = closed_keep old new m id digest (Err StoreFault) s right none closed others d.buckets tt
    by (inr same) =
        kept_with old new (ended id old.buckets) m (Err StoreFault) same d.buckets
        (ended_sound old.store.closed old.store.opened new.store.opened old.buckets id others s) tt
closes_keep old new t m id digest (Ok None) s e right none d = absurd d

some_of_digest : (o : Option ClosedShare) (digest : List ℕ) → option_map (λ (c : ClosedShare). c.digest) o ≡ Some digest → (c : ClosedShare) × (o ≡ Some c)
some_of_digest None digest e = absurd cc
some_of_digest (Some c) digest e = (c, refl)

reads_keep : (old new : ServerState Shelf) (t : ℕ) (m : Message) (id : ShareId) (offset len : ℕ) (digest : List ℕ) (outcome : Outcome) → IsSound old → m.body ≡ Read id offset len → digest_at id old.store.closed ≡ Some digest → Does shelf_calls (ReadsShare id offset len) t old m outcome new → Keeps old m outcome new
reads_keep old new t m id offset len digest (Ok (Some r)) s e closed d =
    let c = some_of_digest (closed_at id old.store.closed) digest closed in
    let piece : d.bytes ≡ take len (drop offset c.0.bytes) =
    d.read.0 ∙ ap (λ (o : Option ClosedShare). take len (drop offset (unwrap_or (option_map (λ (x : ClosedShare). x.bytes) o) []))) c.1 in
    kept_at old new old.buckets m (Ok (Some r)) (record { store = d.read.1; buckets = d.buckets }) s
    (answer_is old.store m (Data d.bytes) r d.answer (ap is_request e) refl (subst (λ (b : Body). Tells old.store b (Data d.bytes)) (sym e) (c.0, c.1, piece)))
reads_keep old new t m id offset len digest (Err OutOfMemory) s e closed d = fault_keep old new m OutOfMemory s d.call d.buckets
reads_keep old new t m id offset len digest (Err StoreFault) s e closed d = fault_keep old new m StoreFault s d.call d.buckets
reads_keep old new t m id offset len digest (Ok None) s e closed d = absurd d

-- ---- the table

has_room : (readonly : Bool) (n : ℕ) (c : Bool) → (readonly || nat_le most_buckets n || c) ≡ false → n < most_buckets
has_room readonly n c e = grind (arith, nat_tests)

-- the digest of a bucket that is whole
whole_digest : (digest : List ℕ) (b : Bucket) (w : List ℕ) → b.gathered ≡ Whole digest → IsWritten b w → digest ≡ share_digest w
whole_digest digest b w e (inl n) = absurd (subst (λ (g : Gathered). Rattle.server_core.specs.Buckets.IsNothing g) e n)
whole_digest digest b w e (inr g) = (subst (λ (x : Gathered). Rattle.server_core.specs.Buckets.Gathers b.length x w) e g).1

by_kind : (old new : ServerState Shelf) (from t : ℕ) (m : Message) (outcome : Outcome) → IsSound old → (body : Body) → m.body ≡ body → Does shelf_calls (line_of shelf_calls old from m.session body) t old m outcome new → Keeps old m outcome new
by_kind old new from t m outcome s = kinds
  where
    asks : (request : Body) → m.body ≡ request → is_request request ≡ true → is_request m.body ≡ true
    asks request e k = ap is_request e ∙ k

    tells : (st : Shelf) (request body : Body) → m.body ≡ request → Tells st request body → Tells st m.body body
    tells st request body e h = subst (λ (b : Body). Tells st b body) (sym e) h

    says : (request body : Body) → m.body ≡ request → is_request request ≡ true → is_request body ≡ false → Tells old.store request body → Does shelf_calls (Says body) t old m outcome new → Keeps old m outcome new
    says request body e asked kind h d = says_keep old new t m body outcome s (asks request e asked) kind (tells old.store request body e h) d

    touches : (request body : Body) (id : ShareId) → m.body ≡ request → is_request request ≡ true → is_request body ≡ false → Tells old.store request body → Does shelf_calls (Touches id body) t old m outcome new → Keeps old m outcome new
    touches request body id e asked kind h d = touches_keep old new t m id body outcome s (asks request e asked) kind (tells old.store request body e h) d

    allocates : (id : ShareId) (len : ℕ) (full : Bool) (told : Option (List ℕ)) (bucket : Option Bucket) → m.body ≡ Allocate id len → is_full shelf_calls old len ≡ full → digest_at id old.store.closed ≡ told → bucket_at id old.buckets ≡ bucket → Does shelf_calls (allocate_line from m.session id len full told bucket) t old m outcome new → Keeps old m outcome new
    allocates id len full (Some digest) bucket e f h b d = says (Allocate id len) (Already digest) e refl refl h d
    allocates id len full None (Some c) e f h b d = owned (is_owned from m.session c && (c.length == len)) d where
      owned : (yes : Bool) → Does shelf_calls (cond yes (Touches id Granted) (Says Busy)) t old m outcome new → Keeps old m outcome new
      owned true x = touches (Allocate id len) Granted id e refl refl tt x
      owned false x = says (Allocate id len) Busy e refl refl tt x
    allocates id len true None None e f h b d = says (Allocate id len) Full e refl refl tt d
    allocates id len false None None e f h b d =
        opens_keep old new t m from m.session id len outcome s (asks (Allocate id len) e refl) (tells old.store (Allocate id len) Granted e tt) b (has_room old.readonly (length old.buckets) _ f) d

    writes : (id : ShareId) (offset : ℕ) (bytes : List ℕ) (told : Option (List ℕ)) (bucket : Option Bucket) → m.body ≡ Write id offset bytes → digest_at id old.store.closed ≡ told → bucket_at id old.buckets ≡ bucket → Does shelf_calls (write_line from m.session id offset bytes told bucket) t old m outcome new → Keeps old m outcome new
    writes id offset bytes (Some digest) bucket e h b d = says (Write id offset bytes) (Already digest) e refl refl h d
    writes id offset bytes None None e h b d = says (Write id offset bytes) NoShare e refl refl tt d
    writes id offset bytes None (Some c) e h b d = owned (not (is_owned from m.session c)) d where
      fits : (no : Bool) → Does shelf_calls (cond no (Touches id (WrongOffset (bytes_so_far c))) (WritesBytes id c bytes)) t old m outcome new → Keeps old m outcome new
      fits true x = touches (Write id offset bytes) (WrongOffset (bytes_so_far c)) id e refl refl tt x
      fits false x = writes_keep old new t m id c bytes outcome s b (asks (Write id offset bytes) e refl) (tells new.store (Write id offset bytes) (Wrote (bytes_so_far c + length bytes)) e tt) x

      owned : (no : Bool) → Does shelf_calls (cond no (Says NoShare) (cond (not (offset == bytes_so_far c) || nat_lt c.length (offset + length bytes)) (Touches id (WrongOffset (bytes_so_far c))) (WritesBytes id c bytes))) t old m outcome new → Keeps old m outcome new
      owned true x = says (Write id offset bytes) NoShare e refl refl tt x
      owned false x = fits (not (offset == bytes_so_far c) || nat_lt c.length (offset + length bytes)) x

    closes : (id : ShareId) (told : Option (List ℕ)) (bucket : Option Bucket) → m.body ≡ Close id → digest_at id old.store.closed ≡ told → bucket_at id old.buckets ≡ bucket → Does shelf_calls (close_line from m.session id told bucket) t old m outcome new → Keeps old m outcome new
    closes id (Some digest) bucket e h b d = says (Close id) (Closed digest) e refl refl h d
    closes id None None e h b d = says (Close id) NoShare e refl refl tt d
    closes id None (Some c) e h b d = owned (not (is_owned from m.session c)) d where
      whole : (g : Gathered) → c.gathered ≡ g → Does shelf_calls (close_gathered id g) t old m outcome new → Keeps old m outcome new
      whole (Part count hasher) is x = touches (Close id) (NotComplete count) id e refl refl tt x
      whole (Whole digest) is x = closes_keep old new t m id digest outcome s e (whole_digest digest c (written id old.store.opened) is (s.gathered id c b)) h x

      owned : (no : Bool) → Does shelf_calls (cond no (Says NoShare) (close_gathered id c.gathered)) t old m outcome new → Keeps old m outcome new
      owned true x = says (Close id) NoShare e refl refl tt x
      owned false x = whole c.gathered refl x

    aborts : (id : ShareId) (bucket : Option Bucket) → m.body ≡ Abort id → Does shelf_calls (abort_line from m.session id bucket) t old m outcome new → Keeps old m outcome new
    aborts id None e d = says (Abort id) NoShare e refl refl tt d
    aborts id (Some c) e d = owned (is_owned from m.session c) d where
      owned : (yes : Bool) → Does shelf_calls (cond yes (Ends id) (Says NoShare)) t old m outcome new → Keeps old m outcome new
      owned true x = ends_keep old new t m id outcome s (asks (Abort id) e refl) (tells old.store (Abort id) NoShare e tt) x
      owned false x = says (Abort id) NoShare e refl refl tt x

    reads : (id : ShareId) (offset len : ℕ) (told : Option (List ℕ)) → m.body ≡ Read id offset len → digest_at id old.store.closed ≡ told → Does shelf_calls (read_line id offset len told) t old m outcome new → Keeps old m outcome new
    reads id offset len (Some digest) e h d = reads_keep old new t m id offset len digest outcome s e h d
    reads id offset len None e h d = says (Read id offset len) NoShare e refl refl tt d

    kinds : (body : Body) → m.body ≡ body → Does shelf_calls (line_of shelf_calls old from m.session body) t old m outcome new → Keeps old m outcome new
    kinds (Ask index) e d = lists_keep old new t m index outcome s e d
    kinds (Allocate id len) e d = allocates id len _ _ _ e refl refl refl d
    kinds (Write id offset bytes) e d = writes id offset bytes _ _ e refl refl d
    kinds (Close id) e d = closes id _ _ e refl refl d
    kinds (Abort id) e d = aborts id _ e d
    kinds (Read id offset len) e d = reads id offset len _ e refl d
    kinds (Have readonly found) e d = silent_keep old new t m outcome s d
    kinds Granted e d = silent_keep old new t m outcome s d
    kinds (Already digest) e d = silent_keep old new t m outcome s d
    kinds Busy e d = silent_keep old new t m outcome s d
    kinds Full e d = silent_keep old new t m outcome s d
    kinds (Wrote next) e d = silent_keep old new t m outcome s d
    kinds (WrongOffset count) e d = silent_keep old new t m outcome s d
    kinds (Closed digest) e d = silent_keep old new t m outcome s d
    kinds (NotComplete count) e d = silent_keep old new t m outcome s d
    kinds (Data bytes) e d = silent_keep old new t m outcome s d
    kinds NoShare e d = silent_keep old new t m outcome s d

-- each message keeps
pub messages_keep : MessagesKeep
messages_keep old new from now m outcome s d =
    let kept = by_kind old new from (max old.clock now) m outcome s m.body refl d.does in
    let leaves = messages_leave_others old new from now m outcome d in
    record {
      stays = leaves.stays;
      sound = kept.sound;
      answers = kept.answers;
      buckets = leaves.buckets;
      bytes = leaves.bytes;
    }

pub ticks_keep : TicksKeep
ticks_keep old new now s d = record {
  stays = ticks_leave_closed old new now d;
  sound = subst (λ (t : Shelf). AreSound t.closed t.opened new.buckets) (sym d.after.store)
      (subst (λ (x : List Bucket). AreSound old.store.closed old.store.opened x) (sym d.after.buckets)
      (filter_sound old.store.closed old.store.opened old.buckets (is_fresh_at (max old.clock now)) s));
}

nothing_sound : (closed : List (ShareKey × ClosedShare)) (opened : List (ShareKey × List ℕ)) → AreRight closed → AreSound closed opened []
nothing_sound closed opened right = record { right = right; apart = tt; few = omega arith; gathered = λ id b e. absurd cc }

pub restarts_keep : RestartsKeep
restarts_keep old new s d = record {
  stays = restarts_leave_closed old new d;
  sound = subst (λ (x : List (ShareKey × ClosedShare)). AreSound x new.store.opened new.buckets) (sym d.store)
      (subst (λ (x : List Bucket). AreSound old.store.closed new.store.opened x) (sym d.buckets)
      (nothing_sound old.store.closed new.store.opened s.right));
}

pub starts_sound : StartsSound
starts_sound store capacity readonly right = nothing_sound store.closed store.opened right
