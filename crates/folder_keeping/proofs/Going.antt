-- One event after another.
use Rattle.std.proofs.Common.{◌≡◌, ℕ, List, [], ◌∷◌, ◌++◌, Some, None, Ok, Err, max, refl, sym, ap, subst, inl, inr}
use Rattle.std.specs.Prelude.{◌⊎◌, All, map, ⊤}
use Rattle.std.specs.List.{AllByRecursion}
use Rattle.std.proofs.lemmas.List.Elements.{All-append, All-cons, All-head, All-nil, All-tail}
use Rattle.wire.specs.declared.message.Body.{Body}
use Rattle.disks.specs.Laws.{DurableOutlasts}
use Rattle.disks.specs.Names.{Name}
use Rattle.tagged_hash.specs.TaggedHash.{HashesHave32Bytes}
use Rattle.wire.specs.declared.message.ShareId.{ShareId}
use Rattle.share_store.specs.Shelf.{ShareKey, key_of}
use Rattle.share_folders.specs.Names.{IsShareKey}
use Rattle.server_core.specs.declared.error.ServerFault.TheVariants.{OutOfMemory}
use Rattle.server_core.specs.ServerState as server
use Rattle.server_core.specs.ServerState.{is_fresh_at, line_of, LetsGoOf}
use Rattle.server_core.specs.Buckets.{is_of_another}
use Rattle.server_core.specs.declared.bucket.Bucket.{Bucket}
use Rattle.folder_keeping.specs.Store.{Facts, StoreState, disk_calls, IsSyncing}
use Rattle.folder_keeping.specs.Steps as keeping
use Rattle.folder_keeping.specs.Steps.{Reopens, Runs, Step}
use Rattle.folder_keeping.specs.Kept.{AreOpen, AreOrderly, Contents, IsFoundAlone, IsSafe, contents_by, nothing_known, put_content}
use Rattle.folder_keeping.proofs.OpenShares.{none_open}
use Rattle.folder_keeping.proofs.Running.{contents_on, honest_first, open_run, orderly_on, runs_on, safe_stay, synced_run}
use Rattle.folder_keeping.specs.Serving.{Event, Failed, FolderServer, Happens, HappenAll, HasShareKey}
use Rattle.folder_keeping.specs.Serving.{Asked, Ticked, Forgot, LetGo, Restarted, Started}
use Rattle.folder_keeping.specs.Served.{AllSteps, AreStepsOf, ClosedAreServed, SafeAreServed, IsAnswered, IsStartedAlone, ServersAreOrderly, StaysServed}
use Rattle.folder_keeping.proofs.Answering.{answered, closed_so}
use Rattle.folder_keeping.proofs.Asking.{Moves, buckets_fed, none_moved, one_moved, serving_moves}
use Rattle.folder_keeping.proofs.Feeding.{AreFed, filter_fed, idle_fed, none_fed}

-- ---- single events

-- the program ended, and a server was started
started_moves : {D F : Type 0} (long : HashesHave32Bytes) (d : Facts D F) (names : List Name) (s last t : FolderServer D F) (known : Contents) → AreFed s.buckets known → (last ≡ s) ⊎ Failed d s last
    → Reopens d last.store names t.store → t.buckets ≡ [] → Moves d s t known ⊤ (λ key digest. IsStartedAlone key digest (Started names)) (AreStepsOf d s (Started names))
started_moves {D} {F} long d names s last t known fed (inl same) reopens none =
    one_moved d s t known ⊤ _ (AreStepsOf d s (Started names)) (keeping.Opened names) ([], refl) (subst (λ (w : FolderServer D F). Reopens d w.store names t.store) same reopens) tt (λ had. none_fed nothing_known t.buckets none) (λ key digest alone. alone)
started_moves long d names s last t known fed (inr failed) reopens none =
    let call = serving_moves long d s last failed.from failed.message failed.now (Err OutOfMemory) known fed failed.serving in
    let opening : List Step = keeping.Opened names ∷ [] in
    record {
      steps = call.steps ++ opening;
      made = (call.steps, refl);
      runs = runs_on d call.steps opening s.store last.store t.store call.runs (t.store, reopens, refl);
      orderly = orderly_on known call.steps opening call.orderly (tt, tt);
      fed = λ had. none_fed (contents_by (call.steps ++ opening) known) t.buckets none;
      alone = λ key digest alone. All-append (IsFoundAlone key digest) call.steps opening (call.alone key digest tt)
          (All-cons (IsFoundAlone key digest) (keeping.Opened names) [] alone (All-nil (IsFoundAlone key digest)));
    }

-- its store let go of shares that have no bucket
went_moves : {D F : Type 0} (d : Facts D F) (ids : List ShareId) (bs : List Bucket) (s t : StoreState D F) (known : Contents) → AllByRecursion (λ (id : ShareId). IsShareKey (key_of id)) ids
    → LetsGoOf (disk_calls d) bs ids s t → AreFed bs known
    → Runs d (map keeping.Went ids) s t × AreOrderly known (map keeping.Went ids) × AreFed bs (contents_by (map keeping.Went ids) known)
went_moves d [] bs s t known keyed goes fed = (goes, tt, fed)
went_moves d (id ∷ ids) bs s t known keyed goes fed =
    let rest = went_moves d ids bs goes.0 t (put_content (key_of id) None known) keyed.1 goes.3 (idle_fed known bs id goes.1 fed) in
    ((goes.0, goes.2, rest.0), (keyed.0, rest.1), rest.2)

none_opened : (ids : List ShareId) (key : ShareKey) (digest : List ℕ) → All (IsFoundAlone key digest) (map keeping.Went ids)
none_opened [] key digest = All-nil (IsFoundAlone key digest)
none_opened (id ∷ ids) key digest = All-cons (IsFoundAlone key digest) (keeping.Went id) (map keeping.Went ids) tt (none_opened ids key digest)

event_moves : {D F : Type 0} (long : HashesHave32Bytes) (d : Facts D F) (event : Event) (s t : FolderServer D F) (known : Contents) → Happens d event s t → AreFed s.buckets known
    → Moves d s t known ⊤ (λ key digest. IsStartedAlone key digest event) (AreStepsOf d s event)
event_moves long d (Asked from m now outcome) s t known happens fed =
    let call = serving_moves long d s t from m now outcome known fed happens.0 in
    record { steps = call.steps; made = call.made; runs = call.runs; orderly = call.orderly; fed = λ had. call.fed happens.1; alone = λ key digest alone. call.alone key digest tt }
event_moves long d (Ticked now) s t known happens fed =
    none_moved d s t known ⊤ _ (AreStepsOf d s (Ticked now)) refl happens.after.store (λ had. buckets_fed _ t.buckets known happens.after.buckets (filter_fed known s.buckets (is_fresh_at (max s.clock now)) fed))
event_moves {D} {F} long d (Forgot client) s t known happens fed =
    none_moved d s t known ⊤ _ (AreStepsOf d s (Forgot client)) refl (ap (λ (w : FolderServer D F). w.store) happens)
    (λ had. buckets_fed _ t.buckets known (ap (λ (w : FolderServer D F). w.buckets) happens) (filter_fed known s.buckets (is_of_another client) fed))
event_moves {D} {F} long d (LetGo ids) s t known happens fed =
    let moved = went_moves d ids s.buckets s.store t.store known happens.keyed (subst (λ (is : List ShareId). LetsGoOf (disk_calls d) s.buckets is s.store t.store) happens.these happens.goes.store) fed in
    record {
      steps = map keeping.Went ids;
      made = refl;
      runs = moved.0;
      orderly = moved.1;
      fed = λ had. buckets_fed s.buckets t.buckets _ happens.goes.buckets moved.2;
      alone = λ key digest alone. none_opened ids key digest;
    }
event_moves long d Restarted s t known happens fed =
    one_moved d s t known ⊤ _ (AreStepsOf d s Restarted) keeping.Restarted refl happens.store tt (λ had. none_fed nothing_known t.buckets happens.buckets) (λ key digest alone. tt)
event_moves long d (Started names) s t known happens fed = started_moves long d names s happens.last t known fed happens.ended happens.store happens.buckets

-- what it answers of a share that is safe
event_answered : {D F : Type 0} (d : Facts D F) (event : Event) (s t : FolderServer D F) (key : ShareKey) (digest bytes : List ℕ) → Happens d event s t → d.honest t.store.disk → IsSafe d s.store key digest bytes
    → IsAnswered key digest bytes event
event_answered d (Asked from m now (Ok (Some r))) s t key digest bytes happens honest safe =
    answered d s t (max s.clock now) m r honest from m.session m.body key digest bytes safe happens.0.serves.does
event_answered d (Asked from m now (Ok None)) s t key digest bytes happens honest safe = tt
event_answered d (Asked from m now (Err e)) s t key digest bytes happens honest safe = tt
event_answered d (Ticked now) s t key digest bytes happens honest safe = tt
event_answered d (Forgot client) s t key digest bytes happens honest safe = tt
event_answered d (LetGo ids) s t key digest bytes happens honest safe = tt
event_answered d Restarted s t key digest bytes happens honest safe = tt
event_answered d (Started names) s t key digest bytes happens honest safe = tt

-- ---- all of them

all_move : {D F : Type 0} (long : HashesHave32Bytes) (d : Facts D F) (events : List Event) (s t : FolderServer D F) (known : Contents) → HappenAll d events s t → AreFed s.buckets known
    → Moves d s t known ⊤ (λ key digest. ⊥) (AllSteps d events s t)
all_move {D} {F} long d [] s t known happen fed =
    none_moved d s t known ⊤ _ (AllSteps d [] s t) (happen, refl) (ap (λ (w : FolderServer D F). w.store) happen) (λ had. buckets_fed s.buckets t.buckets known (ap (λ (w : FolderServer D F). w.buckets) happen) fed)
all_move long d (event ∷ events) s t known happen fed =
    let m = happen.0 in
    let first = event_moves long d event s m known happen.1 fed in
    let then = all_move long d events m t (contents_by first.steps known) happen.2 (first.fed tt) in
    record {
      steps = first.steps ++ then.steps;
      made = (m, happen.1, (first.steps, first.made, (then.steps, refl, then.made)));
      runs = runs_on d first.steps then.steps s.store m.store t.store first.runs then.runs;
      orderly = orderly_on known first.steps then.steps first.orderly then.orderly;
      fed = λ had. subst (λ (k : Contents). AreFed t.buckets k) (sym (contents_on known first.steps then.steps)) (then.fed tt);
      alone = λ key digest none. absurd none;
    }

pub servers_are_orderly : {D F : Type 0} → HashesHave32Bytes → (d : Facts D F) → ServersAreOrderly d
servers_are_orderly long d events s t happen none =
    let all = all_move long d events s t nothing_known happen (none_fed nothing_known s.buckets none) in
    (all.steps, all.made, all.runs, all.orderly)

-- a share that is safe is so after each event
served : {D F : Type 0} (outlasts : DurableOutlasts) (long : HashesHave32Bytes) (d : Facts D F) (events : List Event) (s t : FolderServer D F) (known : Contents) (key : ShareKey) (digest bytes : List ℕ)
    → HappenAll d events s t → d.honest t.store.disk → IsSyncing s.store → AreOpen d s.store known → AreFed s.buckets known → IsSafe d s.store key digest bytes
    → All (IsStartedAlone key digest) events → StaysServed d events t key digest bytes
served {D} {F} outlasts long d [] s t known key digest bytes happen honest synced shares fed safe alone =
    record { safe = subst (λ (w : FolderServer D F). IsSafe d w.store key digest bytes) (sym happen) safe; answered = All-nil (IsAnswered key digest bytes) }
served outlasts long d (event ∷ events) s t known key digest bytes happen honest synced shares fed safe alone =
    let m = happen.0 in
    let first = event_moves long d event s m known happen.1 fed in
    let after = contents_by first.steps known in
    let then = all_move long d events m t after happen.2 (first.fed tt) in
    let here = honest_first d then.steps m.store t.store then.runs honest in
    let stays = safe_stay outlasts d first.steps s.store m.store known first.runs here synced shares first.orderly key digest bytes safe
    (first.alone key digest (All-head (IsStartedAlone key digest) event events alone)) in
    let rest = served outlasts long d events m t after key digest bytes happen.2 honest (synced_run d first.steps s.store m.store first.runs synced)
    (open_run d first.steps s.store m.store known first.runs here shares first.orderly) (first.fed tt) stays.safe (All-tail (IsStartedAlone key digest) event events alone) in
    record { safe = rest.safe; answered = All-cons (IsAnswered key digest bytes) event events (event_answered d event s m key digest bytes happen.1 here safe) rest.answered }

pub closed_are_served : {D F : Type 0} → DurableOutlasts → HashesHave32Bytes → (d : Facts D F) → ClosedAreServed d
closed_are_served outlasts long d before after from now m r id digest s u v t happened asked happen honest synced none is answer open_before relied alone =
    let first = all_move long d before s u nothing_known happened (none_fed nothing_known s.buckets none) in
    let known = contents_by first.steps nothing_known in
    let call = event_moves long d (Asked from m now (Ok (Some r))) u v known asked (first.fed tt) in
    let later = contents_by call.steps known in
    let then = all_move long d after v t later happen (call.fed tt) in
    let at_v = honest_first d then.steps v.store t.store then.runs honest in
    let at_u = honest_first d call.steps u.store v.store call.runs at_v in
    let synced_u = synced_run d first.steps s.store u.store first.runs synced in
    let shares = open_run d first.steps s.store u.store nothing_known first.runs at_u (none_open d s.store) first.orderly in
    let keyed = subst HasShareKey is asked.0.keyed in
    let does = subst (λ (body : Body). server.Does (disk_calls d) (line_of (disk_calls d) u from m.session body) (max u.clock now) u m (Ok (Some r)) v) is asked.0.serves.does in
    let closed = closed_so long d u v (max u.clock now) m r at_v synced_u known shares (first.fed tt) digest answer from m.session id keyed relied open_before does in (
      closed.0,
      closed.1,
      served outlasts long d after v t later (key_of id) digest closed.0 happen honest (synced_run d call.steps u.store v.store call.runs synced_u)
          (open_run d call.steps u.store v.store known call.runs at_v shares call.orderly) (call.fed tt) closed.2 alone,
    )

pub safe_are_served : {D F : Type 0} → DurableOutlasts → HashesHave32Bytes → (d : Facts D F) → SafeAreServed d
safe_are_served outlasts long d events s t happen honest synced none key digest bytes safe alone =
    served outlasts long d events s t nothing_known key digest bytes happen honest synced (none_open d s.store) (none_fed nothing_known s.buckets none) safe alone
