-- What a message does to a server's store is an orderly call, or none.
use Rattle.std.proofs.Common.{◌≡◌, ℕ, ◌+◌, List, [], ◌∷◌, ◌++◌, Bool, true, false, cond, not, Option, Some, None, Ok, Err, length, max, refl, sym, ◌∙◌, subst}
use Rattle.std.specs.Prelude.{◌==◌, ◌&&◌, ◌||◌, nat_lt, All, IsSome, ◌⊎◌, option_map, ⊤}
use Rattle.std.proofs.lemmas.List.Elements.{All-cons, All-nil}
use Rattle.wire.specs.declared.message.Body.{Body}
use Rattle.wire.specs.declared.message.Body.TheVariants.{Ask, Have, Allocate, Granted, Already, Busy, Full, Write, Wrote, WrongOffset, Close, Closed, NotComplete, Abort, Read, Data, NoShare}
use Rattle.wire.specs.declared.message.Message.{Message}
use Rattle.wire.specs.declared.message.ShareId.{ShareId}
use Rattle.cap_text.specs.Base32.{IsBytes}
use Rattle.tagged_hash.specs.TaggedHash.{HashesHave32Bytes}
use Rattle.share_store.specs.declared.error.StoreError.TheVariants as stores
use Rattle.share_store.specs.Shelf.{ShareKey, at, key_of}
use Rattle.share_folders.specs.declared.table.KeptShare.{KeptShare}
use Rattle.share_folders.specs.Names.{IsNamed, IsShareKey}
use Rattle.server_core.specs.declared.error.ServerFault.TheVariants.{OutOfMemory, StoreFault}
use Rattle.server_core.specs.declared.bucket.Gathered.{Gathered}
use Rattle.server_core.specs.declared.bucket.Gathered.TheVariants.{Part, Whole}
use Rattle.server_core.specs.declared.bucket.Bucket.{Bucket}
use Rattle.server_core.specs.Buckets.{bucket_at, is_owned, changed, ended, touched, with_bytes, bytes_so_far, Gathers, GoesOn}
use Rattle.server_core.specs.ServerState as server
use Rattle.server_core.specs.ServerState.{Line, Outcome, HasBuckets, allocate_line, write_line, close_line, close_gathered, abort_line, read_line, line_of, is_full}
use Rattle.server_core.specs.ServerState.{Silent, Says, Touches, Opens, Ends, ListsHoldings, WritesBytes, ClosesShare, ReadsShare}
use Rattle.folder_keeping.specs.Store.{Facts, disk_calls}
use Rattle.folder_keeping.specs.Steps as keeping
use Rattle.folder_keeping.specs.Steps.{Step, Runs}
use Rattle.folder_keeping.specs.Kept.{AreOrderly, Contents, IsFoundAlone, IsOrderly, contents_after, contents_by, more_content, put_content}
use Rattle.folder_keeping.proofs.Keys.{is_some_of, put_here, some_one}
use Rattle.folder_keeping.specs.Serving.{FolderServer, HadMemory, HasShareKey, Serving}
use Rattle.folder_keeping.specs.Served.{AreCallsOf}
use Rattle.folder_keeping.proofs.DigestBytes.{digest_is_bytes}
use Rattle.folder_keeping.proofs.Feeding.{AreFed, IsFedBy, begun_or_known, changed_fed, ended_fed, fed_more, others_known, push_fed, whole_known}

-- These orderly steps lead from the one's store to the other's, and the buckets gather what is known then.
pub record Moves {D F : Type 0} (d : Facts D F) (s t : FolderServer D F) (known : Contents) (had : Type 0) (apart : ShareKey → List ℕ → Type 0) (calls : List Step → Type 0) : Type 0 where
  pub steps : List Step
  pub made : calls steps
  pub runs : Runs d steps s.store t.store
  pub orderly : AreOrderly known steps
  pub fed : had → AreFed t.buckets (contents_by steps known)
  pub alone : (key : ShareKey) (digest : List ℕ) → apart key digest → All (IsFoundAlone key digest) steps

pub none_moved : {D F : Type 0} (d : Facts D F) (s t : FolderServer D F) (known : Contents) (had : Type 0) (apart : ShareKey → List ℕ → Type 0) (calls : List Step → Type 0) → calls [] → t.store ≡ s.store → (had → AreFed t.buckets known)
    → Moves d s t known had apart calls
none_moved d s t known had apart calls made same fed =
    record { steps = []; made = made; runs = same; orderly = tt; fed = fed; alone = λ key digest found. All-nil (IsFoundAlone key digest) }

pub one_moved : {D F : Type 0} (d : Facts D F) (s t : FolderServer D F) (known : Contents) (had : Type 0) (apart : ShareKey → List ℕ → Type 0) (calls : List Step → Type 0) (step : Step) → calls (step ∷ []) → keeping.Does d step s.store t.store
    → IsOrderly known step → (had → AreFed t.buckets (contents_after known step)) → ((key : ShareKey) (digest : List ℕ) → apart key digest → IsFoundAlone key digest step) → Moves d s t known had apart calls
one_moved d s t known had apart calls step made does orderly fed alone = record {
  steps = step ∷ [];
  made = made;
  runs = (t.store, does, refl);
  orderly = (orderly, tt);
  fed = fed;
  alone = λ key digest found. All-cons (IsFoundAlone key digest) step [] (alone key digest found) (All-nil (IsFoundAlone key digest));
}

pub buckets_fed : (bs cs : List Bucket) (known : Contents) → cs ≡ bs → AreFed bs known → AreFed cs known
buckets_fed bs cs known same fed = subst (λ (x : List Bucket). AreFed x known) (sym same) fed

pub told_none : (o : Option KeptShare) → option_map (λ (k : KeptShare). k.digest) o ≡ None → o ≡ None
told_none None e = refl
told_none (Some k) e = absurd cc

-- ---- the lines

module _ {D F : Type 0} (long : HashesHave32Bytes) (d : Facts D F) (s t : FolderServer D F) (time : ℕ) (m : Message) (known : Contents) (fed : AreFed s.buckets known) where
  abbrev Gives : Line → Outcome → Type 0
  Gives line outcome = server.Does (disk_calls d) line time s m outcome t

  abbrev Moved' : Line → Outcome → Type 0
  Moved' line outcome = Moves d s t known (HadMemory outcome) (λ key digest. ⊤) (AreCallsOf line)

  left_as : (line : Line) → AreCallsOf line [] → (outcome : Outcome) (bs : List Bucket) → HasBuckets s bs t → AreFed bs known → Moved' line outcome
  left_as line made outcome bs has gathers = none_moved d s t known (HadMemory outcome) _ (AreCallsOf line) made has.store (λ had. buckets_fed bs t.buckets known has.buckets gathers)

  silent : (outcome : Outcome) → Gives Silent outcome → Moved' Silent outcome
  silent (Ok None) x = left_as Silent refl (Ok None) s.buckets x fed
  silent (Ok (Some r)) x = absurd x
  silent (Err e) x = absurd x

  says : (body : Body) (outcome : Outcome) → Gives (Says body) outcome → Moved' (Says body) outcome
  says body (Ok (Some r)) x = left_as (Says body) refl (Ok (Some r)) s.buckets x.after fed
  says body (Ok None) x = absurd x
  says body (Err e) x = absurd x

  touches : (id : ShareId) (body : Body) (outcome : Outcome) → Gives (Touches id body) outcome → Moved' (Touches id body) outcome
  touches id body (Ok (Some r)) x =
      left_as (Touches id body) refl (Ok (Some r)) (changed id (touched time) s.buckets) x.after (changed_fed known known s.buckets id (touched time) (λ b. refl) (λ other apart. refl) (λ b e. fed.fed id b e) fed)
  touches id body (Ok None) x = absurd x
  touches id body (Err e) x = absurd x

  opens : (client session : ℕ) (id : ShareId) (len : ℕ) (outcome : Outcome) → bucket_at id s.buckets ≡ None → Gives (Opens client session id len) outcome → Moved' (Opens client session id len) outcome
  opens client session id len (Ok (Some r)) none x =
      left_as (Opens client session id len) refl (Ok (Some r)) (s.buckets ++ x.bucket ∷ []) x.after
      (push_fed known s.buckets x.bucket x.fresh.empty (subst (λ (i : ShareId). bucket_at i s.buckets ≡ None) (sym x.fresh.share) none) fed)
  opens client session id len (Ok None) none x = absurd x
  opens client session id len (Err OutOfMemory) none x = left_as (Opens client session id len) refl (Err OutOfMemory) s.buckets x fed
  opens client session id len (Err StoreFault) none x = absurd x

  ends : (id : ShareId) (outcome : Outcome) → Gives (Ends id) outcome → Moved' (Ends id) outcome
  ends id (Ok (Some r)) x = left_as (Ends id) refl (Ok (Some r)) (ended id s.buckets) x.after (ended_fed known known s.buckets id (λ other apart. refl) fed)
  ends id (Ok None) x = absurd x
  ends id (Err e) x = absurd x

  -- one call of the store
  called : (line : Line) (outcome : Outcome) (step : Step) → AreCallsOf line (step ∷ []) → (bs : List Bucket) → keeping.Does d step s.store t.store → IsOrderly known step → t.buckets ≡ bs → (HadMemory outcome → AreFed bs (contents_after known step))
      → ((key : ShareKey) (digest : List ℕ) → IsFoundAlone key digest step) → Moved' line outcome
  called line outcome step made bs does orderly same gathers alone =
      one_moved d s t known (HadMemory outcome) _ (AreCallsOf line) step made does orderly (λ had. buckets_fed bs t.buckets (contents_after known step) same (gathers had)) (λ key digest found. alone key digest)

  lists : (index : List ℕ) (outcome : Outcome) → Gives (ListsHoldings index) outcome → Moved' (ListsHoldings index) outcome
  lists index (Ok (Some r)) x = called (ListsHoldings index) (Ok (Some r)) (keeping.Listed index (Ok x.found)) (Ok x.found, refl) s.buckets x.listed tt x.buckets (λ had. fed) (λ key digest. tt)
  lists index (Ok None) x = absurd x
  lists index (Err OutOfMemory) x = called (ListsHoldings index) (Err OutOfMemory) (keeping.Listed index (Err stores.OutOfMemory)) (Err stores.OutOfMemory, refl) s.buckets x.call tt x.buckets (λ had. fed) (λ key digest. tt)
  lists index (Err StoreFault) x = called (ListsHoldings index) (Err StoreFault) (keeping.Listed index (Err stores.StoreFault)) (Err stores.StoreFault, refl) s.buckets x.call tt x.buckets (λ had. fed) (λ key digest. tt)

  reads : (id : ShareId) (offset len : ℕ) (outcome : Outcome) → Gives (ReadsShare id offset len) outcome → Moved' (ReadsShare id offset len) outcome
  reads id offset len (Ok (Some r)) x = called (ReadsShare id offset len) (Ok (Some r)) (keeping.Read id offset len (Ok x.bytes)) (Ok x.bytes, refl) s.buckets x.read tt x.buckets (λ had. fed) (λ key digest. tt)
  reads id offset len (Ok None) x = absurd x
  reads id offset len (Err OutOfMemory) x = called (ReadsShare id offset len) (Err OutOfMemory) (keeping.Read id offset len (Err stores.OutOfMemory)) (Err stores.OutOfMemory, refl) s.buckets x.call tt x.buckets (λ had. fed) (λ key digest. tt)
  reads id offset len (Err StoreFault) x = called (ReadsShare id offset len) (Err StoreFault) (keeping.Read id offset len (Err stores.StoreFault)) (Err stores.StoreFault, refl) s.buckets x.call tt x.buckets (λ had. fed) (λ key digest. tt)

  ended_then : (id : ShareId) → AreFed (ended id s.buckets) (put_content (key_of id) None known)
  ended_then id = ended_fed known (put_content (key_of id) None known) s.buckets id (others_known id None known) fed

  writes : (id : ShareId) (b : Bucket) (bytes : List ℕ) (outcome : Outcome) → IsShareKey (key_of id) → bucket_at id s.buckets ≡ Some b → Gives (WritesBytes id b bytes) outcome → Moved' (WritesBytes id b bytes) outcome
  writes id b bytes outcome keyed there = by outcome
    where
      orderly : IsShareKey (key_of id) × ((bytes_so_far b ≡ 0) ⊎ IsSome (known (key_of id)))
      orderly = (keyed, begun_or_known b (known (key_of id)) (fed.fed id b there))

      here : (gathered : Gathered) → GoesOn b.length bytes b.gathered gathered → (c : Bucket) → bucket_at id s.buckets ≡ Some c
          → IsFedBy (with_bytes time gathered c) (put_content (key_of id) (Some (more_content (bytes_so_far b) bytes (known (key_of id)))) known (key_of id))
      here gathered goes c at_c =
          subst (λ (x : Bucket). IsFedBy (with_bytes time gathered x) (put_content (key_of id) (Some (more_content (bytes_so_far b) bytes (known (key_of id)))) known (key_of id)))
          (some_one b c (sym there ∙ at_c))
          (fed_more b time bytes gathered (known (key_of id)) _ goes (fed.fed id b there) (put_here (key_of id) (Some (more_content (bytes_so_far b) bytes (known (key_of id)))) known))

      by : (outcome : Outcome) → Gives (WritesBytes id b bytes) outcome → Moved' (WritesBytes id b bytes) outcome
      by (Ok (Some r)) x =
          called (WritesBytes id b bytes) (Ok (Some r)) (keeping.Wrote id (bytes_so_far b) bytes (Ok tt)) (Ok tt, refl) (changed id (with_bytes time x.gathered) s.buckets) x.written orderly x.buckets
          (λ had. changed_fed known _ s.buckets id (with_bytes time x.gathered) (λ c. refl) (others_known id _ known) (here x.gathered x.goes_on) fed) (λ key digest. tt)
      by (Ok None) x = absurd x
      by (Err OutOfMemory) x = called (WritesBytes id b bytes) (Err OutOfMemory) (keeping.Wrote id (bytes_so_far b) bytes (Err stores.OutOfMemory)) (Err stores.OutOfMemory, refl) s.buckets x.call orderly x.buckets (λ had. absurd had) (λ key digest. tt)
      by (Err StoreFault) x =
          called (WritesBytes id b bytes) (Err StoreFault) (keeping.Wrote id (bytes_so_far b) bytes (Err stores.StoreFault)) (Err stores.StoreFault, refl) (ended id s.buckets) x.call orderly x.buckets (λ had. ended_then id) (λ key digest. tt)

  closes : (id : ShareId) (b : Bucket) (digest : List ℕ) (outcome : Outcome) → IsShareKey (key_of id) → bucket_at id s.buckets ≡ Some b → b.gathered ≡ Whole digest → at (key_of id) s.store.closed ≡ None
      → Gives (ClosesShare id digest) outcome → Moved' (ClosesShare id digest) outcome
  closes id b digest outcome keyed there is none = by outcome
    where
      content : (bytes : List ℕ) × (known (key_of id) ≡ Some bytes) × Gathers b.length (Whole digest) bytes
      content = whole_known b (known (key_of id)) digest is (fed.fed id b there)

      orderly : IsNamed (key_of id) digest × IsSome (known (key_of id))
      orderly =
          ((keyed.0, keyed.1, subst (λ (x : List ℕ). IsBytes 32 x) (sym content.2.1) (digest_is_bytes long content.0)), is_some_of (known (key_of id)) content.0 content.1)

      by : (outcome : Outcome) → Gives (ClosesShare id digest) outcome → Moved' (ClosesShare id digest) outcome
      by (Ok (Some r)) x = called (ClosesShare id digest) (Ok (Some r)) (keeping.Closed id digest (Ok tt)) (Ok tt, refl) (ended id s.buckets) (none, x.closed) orderly x.buckets (λ had. ended_then id) (λ key digest. tt)
      by (Ok None) x = absurd x
      by (Err OutOfMemory) x = called (ClosesShare id digest) (Err OutOfMemory) (keeping.Closed id digest (Err stores.OutOfMemory)) (Err stores.OutOfMemory, refl) s.buckets (none, x.call) orderly x.buckets (λ had. absurd had) (λ key digest. tt)
      by (Err StoreFault) x =
          called (ClosesShare id digest) (Err StoreFault) (keeping.Closed id digest (Err stores.StoreFault)) (Err stores.StoreFault, refl) (ended id s.buckets) (none, x.call) orderly x.buckets (λ had. ended_then id) (λ key digest. tt)

  -- ---- the table

  allocates : (from session : ℕ) (id : ShareId) (len : ℕ) (full : Bool) (told : Option (List ℕ)) (bucket : Option Bucket) (outcome : Outcome) → bucket_at id s.buckets ≡ bucket
      → Gives (allocate_line from session id len full told bucket) outcome → Moved' (allocate_line from session id len full told bucket) outcome
  allocates from session id len full (Some digest) bucket outcome there x = says (Already digest) outcome x
  allocates from session id len full None (Some b) outcome there x = owned (is_owned from session b && (b.length == len)) x
    where
      owned : (yes : Bool) → Gives (cond yes (Touches id Granted) (Says Busy)) outcome → Moved' (cond yes (Touches id Granted) (Says Busy)) outcome
      owned true y = touches id Granted outcome y
      owned false y = says Busy outcome y
  allocates from session id len true None None outcome there x = says Full outcome x
  allocates from session id len false None None outcome there x = opens from session id len outcome there x

  writes_by : (from session : ℕ) (id : ShareId) (offset : ℕ) (bytes : List ℕ) (told : Option (List ℕ)) (bucket : Option Bucket) (outcome : Outcome) → IsShareKey (key_of id) → bucket_at id s.buckets ≡ bucket
      → Gives (write_line from session id offset bytes told bucket) outcome → Moved' (write_line from session id offset bytes told bucket) outcome
  writes_by from session id offset bytes (Some digest) bucket outcome keyed there x = says (Already digest) outcome x
  writes_by from session id offset bytes None None outcome keyed there x = says NoShare outcome x
  writes_by from session id offset bytes None (Some b) outcome keyed there x = owned (not (is_owned from session b)) x
    where
      fits : (no : Bool) → Gives (cond no (Touches id (WrongOffset (bytes_so_far b))) (WritesBytes id b bytes)) outcome → Moved' (cond no (Touches id (WrongOffset (bytes_so_far b))) (WritesBytes id b bytes)) outcome
      fits true y = touches id (WrongOffset (bytes_so_far b)) outcome y
      fits false y = writes id b bytes outcome keyed there y

      owned : (no : Bool) → Gives (cond no (Says NoShare) (cond (not (offset == bytes_so_far b) || nat_lt b.length (offset + length bytes)) (Touches id (WrongOffset (bytes_so_far b))) (WritesBytes id b bytes))) outcome
          → Moved' (cond no (Says NoShare) (cond (not (offset == bytes_so_far b) || nat_lt b.length (offset + length bytes)) (Touches id (WrongOffset (bytes_so_far b))) (WritesBytes id b bytes))) outcome
      owned true y = says NoShare outcome y
      owned false y = fits (not (offset == bytes_so_far b) || nat_lt b.length (offset + length bytes)) y

  closes_by : (from session : ℕ) (id : ShareId) (told : Option (List ℕ)) (bucket : Option Bucket) (outcome : Outcome) → IsShareKey (key_of id)
      → option_map (λ (k : KeptShare). k.digest) (at (key_of id) s.store.closed) ≡ told → bucket_at id s.buckets ≡ bucket
      → Gives (close_line from session id told bucket) outcome → Moved' (close_line from session id told bucket) outcome
  closes_by from session id (Some digest) bucket outcome keyed told there x = says (Closed digest) outcome x
  closes_by from session id None None outcome keyed told there x = says NoShare outcome x
  closes_by from session id None (Some b) outcome keyed told there x = owned (not (is_owned from session b)) x
    where
      whole : (g : Gathered) → b.gathered ≡ g → Gives (close_gathered id g) outcome → Moved' (close_gathered id g) outcome
      whole (Part count hasher) is y = touches id (NotComplete count) outcome y
      whole (Whole digest) is y = closes id b digest outcome keyed there is (told_none (at (key_of id) s.store.closed) told) y

      owned : (no : Bool) → Gives (cond no (Says NoShare) (close_gathered id b.gathered)) outcome → Moved' (cond no (Says NoShare) (close_gathered id b.gathered)) outcome
      owned true y = says NoShare outcome y
      owned false y = whole b.gathered refl y

  aborts : (from session : ℕ) (id : ShareId) (bucket : Option Bucket) (outcome : Outcome) → Gives (abort_line from session id bucket) outcome → Moved' (abort_line from session id bucket) outcome
  aborts from session id None outcome x = says NoShare outcome x
  aborts from session id (Some b) outcome x = owned (is_owned from session b) x
    where
      owned : (yes : Bool) → Gives (cond yes (Ends id) (Says NoShare)) outcome → Moved' (cond yes (Ends id) (Says NoShare)) outcome
      owned true y = ends id outcome y
      owned false y = says NoShare outcome y

  reads_by : (id : ShareId) (offset len : ℕ) (told : Option (List ℕ)) (outcome : Outcome) → Gives (read_line id offset len told) outcome → Moved' (read_line id offset len told) outcome
  reads_by id offset len (Some digest) outcome x = reads id offset len outcome x
  reads_by id offset len None outcome x = says NoShare outcome x

  pub by_kind : (from session : ℕ) (body : Body) (outcome : Outcome) → HasShareKey body → Gives (line_of (disk_calls d) s from session body) outcome → Moved' (line_of (disk_calls d) s from session body) outcome
  by_kind from session (Ask index) outcome keyed x = lists index outcome x
  by_kind from session (Allocate id len) outcome keyed x = allocates from session id len _ _ _ outcome refl x
  by_kind from session (Write id offset bytes) outcome keyed x = writes_by from session id offset bytes _ _ outcome keyed refl x
  by_kind from session (Close id) outcome keyed x = closes_by from session id _ _ outcome keyed refl refl x
  by_kind from session (Abort id) outcome keyed x = aborts from session id _ outcome x
  by_kind from session (Read id offset len) outcome keyed x = reads_by id offset len _ outcome x
  by_kind from session (Have readonly found) outcome keyed x = silent outcome x
  by_kind from session Granted outcome keyed x = silent outcome x
  by_kind from session (Already digest) outcome keyed x = silent outcome x
  by_kind from session Busy outcome keyed x = silent outcome x
  by_kind from session Full outcome keyed x = silent outcome x
  by_kind from session (Wrote next) outcome keyed x = silent outcome x
  by_kind from session (WrongOffset count) outcome keyed x = silent outcome x
  by_kind from session (Closed digest) outcome keyed x = silent outcome x
  by_kind from session (NotComplete count) outcome keyed x = silent outcome x
  by_kind from session (Data bytes) outcome keyed x = silent outcome x
  by_kind from session NoShare outcome keyed x = silent outcome x

pub serving_moves : {D F : Type 0} (long : HashesHave32Bytes) (d : Facts D F) (s t : FolderServer D F) (from : ℕ) (m : Message) (now : ℕ) (outcome : Outcome) (known : Contents) → AreFed s.buckets known
    → Serving d s from m now outcome t → Moves d s t known (HadMemory outcome) (λ key digest. ⊤) (AreCallsOf (line_of (disk_calls d) s from m.session m.body))
serving_moves long d s t from m now outcome known fed serving = by_kind long d s t (max s.clock now) m known fed from m.session m.body outcome serving.keyed serving.serves.does
