-- How a machine goes on: what it is for stays, its record goes on, and each frame that it sends is of one of its requests.
use Rattle.lemmas.proofs.Positions.{get_left}
use Rattle.std.proofs.Common.{◌≡◌, ◌≢◌, ℕ, List, [], ◌++◌, Option, Some, None, Result, Ok, Err, OnOk, OnErr, IsOk, true≢false, refl, sym, subst, ap, ◌∙◌, inl, inr, ◌⊎◌}
use Rattle.std.specs.Prelude.{slice_get}
use Rattle.cap_text.specs.Cap.{ReadCapValue, VerifyCapValue, verify_cap_of}
use Rattle.placement.specs.Matching.{Pair}
use Rattle.wire.specs.declared.message.Body.{Body}
use Rattle.wire.specs.declared.message.Message.{Message}
use Rattle.request_record.specs.declared.requests.Asked.{Asked}
use Rattle.request_record.specs.declared.requests.Asked.TheVariants.{Holdings, Allocation, Writing, Closing, Reading, Aborting}
use Rattle.request_record.specs.Asking.{after_message, after_tick}
use Rattle.request_record.specs.Record.{RequestsState, asked_all}
use Rattle.upload_core.specs.declared.pieces.PieceFault.{PieceFault}
use Rattle.upload_core.specs.declared.status.UploadStatus.{UploadStatus}
use Rattle.upload_core.specs.declared.status.UploadStatus.TheVariants as uploads
use Rattle.upload_core.specs.Calls.{MovesCourse}
use Rattle.upload_core.specs.State.{Goal, UploadState}
use Rattle.upload_core.specs.Moves as upload
use Rattle.upload_core.proofs.Following.{Continues, advances_continue, stops_at_continue, stops_continue, takes_continue, ticks_continue}
use Rattle.upload_core.specs.Sending as upload_sends
use Rattle.download_core.specs.Hashed.{StaysGiven, StaysHashed}
use Rattle.download_core.specs.State.{DownloadState}
use Rattle.download_core.proofs.HashedLemmas.{sent_hashed, sent_stays, taken_hashed, taken_stays}
use Rattle.download_core.specs.Tested.{StaysTested}
use Rattle.download_core.proofs.TestedLemmas.{sent_tested, taken_tested}
use Rattle.download_core.specs.declared.status.DownloadStatus.TheVariants as downloads
use Rattle.download_shares.specs.declared.holding.Blame.{Blame}
use Rattle.download_segments.specs.declared.piece.Piece.{Piece}
use Rattle.download_core.specs.Moves as download
use Rattle.download_core.specs.Sending as download_sends
use Rattle.checker.specs.State.{CheckState}
use Rattle.checker.specs.Moves as check
use Rattle.checker.specs.Sending as check_sends
use Rattle.checker.proofs.Following.{follows_stops_at}
use Rattle.checker.specs.declared.status.CheckStatus.{CheckStatus}
use Rattle.checker.specs.declared.status.CheckStatus.TheVariants as checks
use Rattle.world_operations.specs.declared.job.Job.{Job}
use Rattle.world_operations.specs.declared.job.Job.TheVariants as jobs
use Rattle.world_operations.specs.declared.task.Task.{Task}
use Rattle.world_operations.specs.declared.task.Task.TheVariants.{Uploading, Downloading, Checking, Gone}
use Rattle.world_operations.specs.Tasks.{requests_of}
use Rattle.world_operations.specs.Jobs.{IsFor}
use Rattle.world_operations.specs.Moves.{Calls, Takes, TakesPiece}
use Rattle.world_operations.specs.UploadPieces.{fails, gives}
use Rattle.world_operations.specs.declared.upload_pieces.UploadPieces.{UploadPieces}
use Rattle.world_operations.specs.declared.upload_pieces.UploadPieces.TheVariants.{Whole, Streamed}
use Rattle.answer_laws.specs.Asking.Checks.{CheckAsksAll}
use Rattle.answer_laws.specs.Asking.Downloads.{DownloadAsksAll}
use Rattle.answer_laws.specs.Asking.Asked.{AsksAll}
use Rattle.answer_laws.proofs.Asking.Checks.{checks_ask_all}
use Rattle.answer_laws.proofs.Asking.Records.{asked_after_asks, asked_after_message}
use Rattle.answer_laws.proofs.Asking.Downloads.{downloads_ask_all}
use Rattle.request_record.specs.Follow.{Follows, IsSaid, Nothing, Said}
use Rattle.world_operations.specs.Follow.{GoesOn}
use Rattle.world_operations.proofs.Positions.{append_none}
use Rattle.world_operations.proofs.Tests.{tests_stay}
use Rattle.request_record.proofs.FollowLaws.{follows_asks, follows_itself, follows_message, follows_on, follows_same, follows_tick}

pub goes_on : (New : Said) (a b c : Task) → GoesOn New a b → GoesOn Nothing b c → GoesOn New a c
goes_on New a b c f g = record {
  follows = follows_on New (requests_of a) (requests_of b) (requests_of c) f.follows g.follows;
  index = g.index ∙ f.index;
  is_for = λ e h. g.is_for e (f.is_for e h);
  happy = λ pairs h. g.happy pairs (f.happy pairs h);
  shares = λ these h. g.shares these (f.shares these h);
  given = λ p h. g.given p (f.given p h);
  hashed = λ input h. g.hashed input (f.hashed input h);
  tested = λ input h. g.tested input (f.tested input h);
  ended = λ status h. g.ended status (f.ended status h);
  blamed = λ position b h. g.blamed position b (f.blamed position b h);
  asked = λ servers h. g.asked servers (f.asked servers h);
  gone = λ number e. g.gone number (f.gone number e);
}

pub goes_nowhere : (New : Said) (a : Task) → GoesOn New a a
goes_nowhere New a = record {
  follows = follows_itself New (requests_of a);
  index = refl;
  is_for = λ e h. h;
  happy = λ pairs h. h;
  shares = λ these h. h;
  given = λ p h. h;
  hashed = λ input h. h;
  tested = λ input h. h;
  ended = λ status h. h;
  blamed = λ position b h. h;
  asked = λ servers h. h;
  gone = λ number e. e;
}

pub same_goes : (New : Said) (a b : Task) → b ≡ a → GoesOn New a b
same_goes New a b e = subst (GoesOn New a) (sym e) (goes_nowhere New a)

-- more is asked
asks_more : (New : Said) (old r : RequestsState) (asks : List (ℕ × Asked)) → Follows New old r → Follows New old (asked_all asks r)
asks_more New old r asks f = follows_on New old r (asked_all asks r) f (follows_asks asks r)

-- ---- uploads

-- an upload with its pieces
abbrev pub State : Type 0
State = upload_sends.Uploading UploadPieces

record SameUpload (u v : UploadState) : Type 0 where
  pub goal : v.goal ≡ u.goal
  pub happy_is : v.happy ≡ u.happy
  pub happy : (pairs : List Pair) → u.status ≡ uploads.Happy pairs → v.status ≡ uploads.Happy pairs

-- shares in memory stay
abbrev KeepWhole : UploadPieces → UploadPieces → Type 0
KeepWhole old new = (shares : List (List ℕ)) → old ≡ Whole shares → new ≡ Whole shares

upload_goes : (New : Said) (u v : State) → KeepWhole u.pieces v.pieces → SameUpload u.course v.course → Follows New u.course.requests v.course.requests → GoesOn New (Uploading u) (Uploading v)
upload_goes New u v pieces same f = record {
  follows = f;
  index = ap (λ (g : Goal). g.cap.storage_index) same.goal;
  is_for = kept;
  happy = same.happy;
  shares = pieces;
  given = λ p h. h;
  hashed = λ input h. h;
  tested = λ input h. h;
  ended = λ status h. h;
  blamed = λ position b h. h;
  asked = λ servers h. tt;
  gone = λ number e. absurd cc;
}
  where
    kept : (e : Job) → IsFor e (Uploading u) → IsFor e (Uploading v)
    kept (jobs.Upload file secret p) h = (same.goal ∙ h.0, same.happy_is ∙ h.1, h.2)
    kept (jobs.Changing file other after secret p) h = (same.goal ∙ h.0, same.happy_is ∙ h.1, h.2, h.3)
    kept (jobs.Download cap from to) h = absurd h
    kept (jobs.Check cap) h = absurd h
    kept (jobs.Repair cap happy) h = record {
      shares = h.shares;
      pieces = pieces h.shares h.pieces;
      goal = same.goal ∙ h.goal;
      happy_is = same.happy_is ∙ h.happy_is;
      may = h.may;
      passing = h.passing;
    }
    kept (jobs.NoRepair cap why) h = absurd h

-- does an upload run?
runs : (s : UploadStatus) → (s ≡ uploads.Running) ⊎ (s ≢ uploads.Running)
runs uploads.Running = inl refl
runs (uploads.Happy pairs) = inr (λ e. absurd cc)
runs (uploads.Unhappy reached blocking) = inr (λ e. absurd cc)
runs (uploads.Failed fault) = inr (λ e. absurd cc)

runs_not_happy : (s : UploadStatus) (pairs : List Pair) → s ≡ uploads.Running → s ≡ uploads.Happy pairs → ⊥
runs_not_happy s pairs e f = clash (sym e ∙ f) where
  clash : uploads.Running ≡ uploads.Happy pairs → ⊥
  clash g = cc

-- a Happy upload stays so, where one that ended does
stays_happy : (u v : UploadState) → (u.status ≢ uploads.Running → v.status ≡ u.status) → (pairs : List Pair) → u.status ≡ uploads.Happy pairs → v.status ≡ uploads.Happy pairs
stays_happy u v ended pairs h = elim (runs u.status) [
  | inl running ↦ absurd (runs_not_happy u.status pairs running h)
  | inr over ↦ ended over ∙ h
]

upload_continues : (New : Said) (u v : State) → KeepWhole u.pieces v.pieces → (u.course.status ≢ uploads.Running → v.course.status ≡ u.course.status) → Continues New u.course v.course
    → GoesOn New (Uploading u) (Uploading v)
upload_continues New u v pieces ended c = upload_goes New u v pieces record { goal = c.goal; happy_is = c.happy; happy = stays_happy u.course v.course ended } c.follows

-- a message, whatever came of the call
pub upload_heard : {X E : Type 0} (r : Result X E) (from now : ℕ) (m : Message) (u v : State) → OnOk r (MovesCourse (upload.Advances from m now) u v)
    → OnErr r (upload.Stops (after_message from m now u.course.requests) u.course v.course) → (u.course.status ≢ uploads.Running → IsOk r) → v.pieces ≡ u.pieces
    → GoesOn (IsSaid from m u.course.requests.session) (Uploading u) (Uploading v)
upload_heard (Ok x) from now m u v a s ended same =
    upload_continues (IsSaid from m u.course.requests.session) u v (λ shares h. same ∙ h) (λ over. ap (λ (c : UploadState). c.status) (a.moved.ended over))
    (advances_continue from m now u.course v.course a.moved)
upload_heard (Err x) from now m u v a s ended same =
    upload_continues (IsSaid from m u.course.requests.session) u v (λ shares h. same ∙ h) (λ over. absurd (true≢false (sym (ended over))))
    (stops_continue (IsSaid from m u.course.requests.session) (after_message from m now u.course.requests) u.course v.course (follows_message from now m u.course.requests) s)

-- a tick
pub upload_ticked : {X E : Type 0} (r : Result X E) (now : ℕ) (u v : State) → OnOk r (MovesCourse (upload.TicksOn now) u v) → OnErr r (upload.StopsAt now u.course v.course) → v.pieces ≡ u.pieces
    → GoesOn Nothing (Uploading u) (Uploading v)
upload_ticked (Ok x) now u v a s same =
    upload_continues Nothing u v (λ shares h. same ∙ h) (λ over. ap (λ (c : UploadState). c.status) (a.moved.ended over)) (ticks_continue now u.course v.course a.moved)
upload_ticked (Err x) now u v a s same =
    upload_continues Nothing u v (λ shares h. same ∙ h) (λ over. ap (λ (c : UploadState). c.status) (s.ended over)) (stops_at_continue now u.course v.course s)

-- shares in memory stay when bytes of them are given, and they always are
none_fail : (old new : UploadPieces) (asked : Asked) (fault : PieceFault) → upload_sends.Faults fails old asked fault new → KeepWhole old new
none_fail old new Holdings fault f = absurd f
none_fail old new (Allocation share len) fault f = absurd f
none_fail (Whole these) new (Writing share offset len) fault f = absurd f
none_fail (Streamed s) new (Writing share offset len) fault f = λ shares e. absurd cc
none_fail old new (Closing share) fault f = absurd f
none_fail old new (Reading share offset len) fault f = absurd f
none_fail old new (Aborting share) fault f = absurd f

gives_keep : (old new : UploadPieces) (share offset : ℕ) (bytes : List ℕ) → gives old share offset bytes new → KeepWhole old new
gives_keep (Whole old) (Whole new) share offset bytes g = λ shares e. ap Whole g.1 ∙ e
gives_keep (Whole old) (Streamed new) share offset bytes g = absurd g
gives_keep (Streamed old) new share offset bytes g = λ shares e. absurd cc

tells_keep : (index : List ℕ) (old new : UploadPieces) (asked : Asked) (body : Body) → upload_sends.Tells gives index old asked body new → KeepWhole old new
tells_keep index old new Holdings body t = λ shares e. t.1 ∙ e
tells_keep index old new (Allocation share len) body t = λ shares e. t.1 ∙ e
tells_keep index old new (Writing share offset len) body t = gives_keep old new share offset t.0 t.1
tells_keep index old new (Closing share) body t = λ shares e. t.1 ∙ e
tells_keep index old new (Reading share offset len) body t = λ shares e. t.1 ∙ e
tells_keep index old new (Aborting share) body t = λ shares e. t.1 ∙ e

upload_takes : (u v : State) (f : Option (ℕ × Message)) → upload_sends.Takes gives fails u f v → GoesOn Nothing (Uploading u) (Uploading v)
upload_takes u v f (upload_sends.nothing first none is) = same_goes Nothing (Uploading u) (Uploading v) (ap Uploading is)
upload_takes u v f (upload_sends.ceases position server asked fault running first there faults none is) =
    upload_continues Nothing u v (none_fail u.pieces v.pieces asked fault faults) (λ over. absurd (over running))
    (takes_continue gives fails u v f (upload_sends.ceases position server asked fault running first there faults none is))
upload_takes u v f (upload_sends.sends position server asked body first there tells some is) =
    upload_continues Nothing u v (tells_keep u.course.goal.cap.storage_index u.pieces v.pieces asked body tells) (λ over. ap (λ (x : UploadState). x.status) is)
    (takes_continue gives fails u v f (upload_sends.sends position server asked body first there tells some is))

-- ---- downloads and checks

asks_follow : (New : Said) (old r new : RequestsState) (asks : List (ℕ × Asked)) → Follows New old r → new ≡ asked_all asks r → Follows New old new
asks_follow New old r new asks f is = subst (Follows New old) (sym is) (asks_more New old r asks f)

-- how it ended stays, and whom it blamed
record StaysTold (d e : DownloadState) : Type 0 where
  pub ended : d.status ≢ downloads.Running → e.status ≡ d.status
  pub others : List Blame
  pub blamed : e.blamed ≡ d.blamed ++ others

told_same : (d e : DownloadState) → e.status ≡ d.status → e.blamed ≡ d.blamed → StaysTold d e
told_same d e status blamed = record { ended = λ over. status; others = []; blamed = blamed ∙ sym (append_none d.blamed) }

told_moved : (r : RequestsState) (d e : DownloadState) → download.GoesOn r d e → StaysTold d e
told_moved r d e a = record { ended = λ over. ap (λ (x : DownloadState). x.status) (a.ended over); others = a.same.others; blamed = a.same.blamed }

-- whom it asked it asked still, unless it is done
abbrev StaysAsked : DownloadState → DownloadState → Type 0
StaysAsked d e = (servers : List ℕ) → DownloadAsksAll servers d → DownloadAsksAll servers e

download_goes : (New : Said) (d e : DownloadState) → e.cap ≡ d.cap → (e.from ≡ d.from) × (e.to ≡ d.to) → Follows New d.requests e.requests → StaysGiven d e → StaysHashed d e
    → StaysTested d e → StaysTold d e → StaysAsked d e → GoesOn New (Downloading d) (Downloading e)
download_goes New d e same range f stays hashed tested told asked = record {
  follows = f;
  index = ap (λ (c : ReadCapValue). (verify_cap_of c).storage_index) same;
  is_for = kept;
  happy = λ pairs h. h;
  shares = λ these h. h;
  given = stays;
  hashed = hashed;
  tested = tested;
  ended = λ status h. (told.ended (λ running. h.1 (sym h.0 ∙ running)) ∙ h.0, h.1);
  blamed = λ position b h. ap (λ (l : List Blame). slice_get l position) told.blamed ∙ get_left d.blamed told.others position b h;
  asked = asked;
  gone = λ number e. absurd cc;
}
  where
    kept : (x : Job) → IsFor x (Downloading d) → IsFor x (Downloading e)
    kept (jobs.Upload file secret p) h = absurd h
    kept (jobs.Changing file other after secret p) h = absurd h
    kept (jobs.Repair cap happy) h = absurd h
    kept (jobs.NoRepair cap why) h = absurd h
    kept (jobs.Download cap from to) h = (same ∙ h.0, range.0 ∙ h.1, range.1 ∙ h.2)
    kept (jobs.Check cap) h = absurd h

download_moves : (New : Said) (d e : DownloadState) (r : RequestsState) → Follows New d.requests r → download.GoesOn r d e → StaysAsked d e → GoesOn New (Downloading d) (Downloading e)
download_moves New d e r f a asked = download_goes New d e a.same.cap a.same.range (asks_follow New d.requests r e.requests a.asks f a.requests) a.same.stays a.same.hashed a.same.tested
    (told_moved r d e a) asked

-- one that finds no memory at a tick
download_stops : (now : ℕ) (d e : DownloadState) → download.StopsAt now d e → GoesOn Nothing (Downloading d) (Downloading e)
download_stops now d e a = download_goes Nothing d e a.same.cap a.same.range (elim a.requests [
  | inl same ↦ follows_same Nothing d.requests e.requests (ap (λ (r : RequestsState). r.session) same) (ap (λ (r : RequestsState). r.entries) same)
  | inr on ↦ asks_follow Nothing d.requests (after_tick now d.requests) e.requests on.0 (follows_tick now d.requests) on.1
]) a.same.stays a.same.hashed a.same.tested record { ended = λ over. ap (λ (x : DownloadState). x.status) (a.ended over); others = a.same.others; blamed = a.same.blamed }
    (λ servers h. downloads_ask_all.stops now servers d e a h)

download_ticks : (now : ℕ) (d e : DownloadState) → download.TicksOn now d e → GoesOn Nothing (Downloading d) (Downloading e)
download_ticks now d e a = download_moves Nothing d e (after_tick now d.requests) (follows_tick now d.requests) a (λ servers h. downloads_ask_all.ticks now servers d e a h)

download_same : (d e : DownloadState) → e.cap ≡ d.cap → (e.from ≡ d.from) × (e.to ≡ d.to) → e.requests.session ≡ d.requests.session → e.requests.entries ≡ d.requests.entries
    → StaysGiven d e → StaysHashed d e → StaysTested d e → StaysTold d e → StaysAsked d e → GoesOn Nothing (Downloading d) (Downloading e)
download_same d e cap range session entries stays hashed tested told asked =
    download_goes Nothing d e cap range (follows_same Nothing d.requests e.requests session entries) stays hashed tested told asked

download_takes : (d e : DownloadState) (f : Option (ℕ × Message)) → download_sends.Takes d f e → GoesOn Nothing (Downloading d) (Downloading e)
download_takes d e None t = same_goes Nothing (Downloading d) (Downloading e) (ap Downloading t.1)
download_takes d e (Some f) t = (let is = t.3 in
    download_same d e (ap (λ (x : DownloadState). x.cap) is) (ap (λ (x : DownloadState). x.from) is, ap (λ (x : DownloadState). x.to) is)
    (ap (λ (x : DownloadState). x.requests.session) is) (ap (λ (x : DownloadState). x.requests.entries) is) (sent_stays d e (Some f) t) (sent_hashed d e (Some f) t)
    (sent_tested d e (Some f) t) (told_same d e (ap (λ (x : DownloadState). x.status) is) (ap (λ (x : DownloadState). x.blamed) is))
    (λ servers h. downloads_ask_all.sends (Some f) servers d e t h))

download_hands : (d e : DownloadState) (p : Option Piece) → download.TakesPiece d p e → GoesOn Nothing (Downloading d) (Downloading e)
download_hands d e None t = same_goes Nothing (Downloading d) (Downloading e) (ap Downloading t.1)
download_hands d e (Some p) t = (let is = t.1 in
    download_same d e (ap (λ (x : DownloadState). x.cap) is) (ap (λ (x : DownloadState). x.from) is, ap (λ (x : DownloadState). x.to) is)
    (ap (λ (x : DownloadState). x.requests.session) is) (ap (λ (x : DownloadState). x.requests.entries) is) (taken_stays d e (Some p) t) (taken_hashed d e (Some p) t)
    (taken_tested d e (Some p) t) (told_same d e (ap (λ (x : DownloadState). x.status) is) (ap (λ (x : DownloadState). x.blamed) is))
    (λ servers h. downloads_ask_all.hands (Some p) servers d e t h))

abbrev StaysAskedBy : CheckState → CheckState → Type 0
StaysAskedBy c e = (servers : List ℕ) → CheckAsksAll servers c → CheckAsksAll servers e

-- it is of the same cap, and keeps the bytes of shares as before
abbrev IsSameCheck : CheckState → CheckState → Type 0
IsSameCheck c e = (e.cap ≡ c.cap) × (e.keeps ≡ c.keeps)

check_goes : (New : Said) (c e : CheckState) → IsSameCheck c e → Follows New c.requests e.requests → StaysAskedBy c e → GoesOn New (Checking c) (Checking e)
check_goes New c e same f asked = record {
  follows = f;
  index = ap (λ (cap : VerifyCapValue). cap.storage_index) same.0;
  is_for = kept;
  happy = λ pairs h. h;
  shares = λ these h. h;
  given = λ p h. h;
  hashed = λ input h. h;
  tested = tests_stay New c e same.0 f;
  ended = λ status h. h;
  blamed = λ position b h. h;
  asked = asked;
  gone = λ number e. absurd cc;
}
  where
    kept : (x : Job) → IsFor x (Checking c) → IsFor x (Checking e)
    kept (jobs.Upload file secret p) h = absurd h
    kept (jobs.Changing file other after secret p) h = absurd h
    kept (jobs.Repair cap happy) h = absurd h
    kept (jobs.NoRepair cap why) h = absurd h
    kept (jobs.Download cap from to) h = absurd h
    kept (jobs.Check cap) h = (same.0 ∙ h.0, same.1 ∙ h.1)

check_moves : (New : Said) (c e : CheckState) (r : RequestsState) → Follows New c.requests r → check.GoesOn r c e → StaysAskedBy c e → GoesOn New (Checking c) (Checking e)
check_moves New c e r f a asked = check_goes New c e (a.cap, a.keeps) (asks_follow New c.requests r e.requests a.asks f a.requests) asked

-- a message, whatever came of the call
pub check_heard : {X E : Type 0} (r : Result X E) (from now : ℕ) (m : Message) (c e : CheckState) → OnOk r (check.Advances from m now c e) → OnErr r (check.Stops (after_message from m now c.requests) c e)
    → GoesOn (IsSaid from m c.requests.session) (Checking c) (Checking e)
check_heard (Ok x) from now m c e a s =
    check_moves (IsSaid from m c.requests.session) c e (after_message from m now c.requests) (follows_message from now m c.requests) a (λ servers h. checks_ask_all.advances from m now servers c e a h)
check_heard (Err x) from now m c e a s =
    check_goes (IsSaid from m c.requests.session) c e (s.cap, s.keeps) (asks_follow (IsSaid from m c.requests.session) c.requests (after_message from m now c.requests) e.requests s.asks (follows_message from now m c.requests) s.requests)
    (λ servers h. subst (λ (q : RequestsState). AsksAll servers q.entries) (sym s.requests)
    (asked_after_asks servers s.asks (after_message from m now c.requests) (asked_after_message servers from m now c.requests h)))

fails_same : (now : ℕ) (c e : CheckState) → check.FailsAt now c e → IsSameCheck c e
fails_same now c e (check.at_once is) = (ap (λ (x : CheckState). x.cap) is, ap (λ (x : CheckState). x.keeps) is)
fails_same now c e (check.later failed s) = (s.cap, s.keeps)

-- does a check run?
check_runs : (s : CheckStatus) → (s ≡ checks.Running) ⊎ (s ≢ checks.Running)
check_runs checks.Running = inl refl
check_runs checks.Done = inr (λ e. absurd cc)
check_runs checks.Failed = inr (λ e. absurd cc)

stops_same : (now : ℕ) (c e : CheckState) → check.StopsAt now c e → IsSameCheck c e
stops_same now c e s = elim (check_runs c.status) [
  | inl running ↦ fails_same now c e (s.running running)
  | inr over ↦ let is = s.ended over in (ap (λ (x : CheckState). x.cap) is, ap (λ (x : CheckState). x.keeps) is)
]

-- a tick
pub check_ticked : {X E : Type 0} (r : Result X E) (now : ℕ) (c e : CheckState) → OnOk r (check.TicksOn now c e) → OnErr r (check.StopsAt now c e) → GoesOn Nothing (Checking c) (Checking e)
check_ticked (Ok x) now c e a s = check_moves Nothing c e (after_tick now c.requests) (follows_tick now c.requests) a (λ servers h. checks_ask_all.ticks now servers c e a h)
check_ticked (Err x) now c e a s = check_goes Nothing c e (stops_same now c e s) (follows_stops_at now c e s) (λ servers h. checks_ask_all.stops now servers c e s h)

check_takes : (c e : CheckState) (f : Option (ℕ × Message)) → check_sends.Takes c f e → GoesOn Nothing (Checking c) (Checking e)
check_takes c e None t = same_goes Nothing (Checking c) (Checking e) (ap Checking t.1)
check_takes c e (Some f) t = (let is = t.3 in
    check_goes Nothing c e (ap (λ (x : CheckState). x.cap) is, ap (λ (x : CheckState). x.keeps) is)
    (follows_same Nothing c.requests e.requests (ap (λ (x : CheckState). x.requests.session) is) (ap (λ (x : CheckState). x.requests.entries) is))
    (λ servers h. checks_ask_all.sends (Some f) servers c e t h))

-- a download, whatever came of the call
pub download_advanced : (from now : ℕ) (m : Message) (d e : DownloadState) → download.Advances from m now d e → GoesOn (IsSaid from m d.requests.session) (Downloading d) (Downloading e)
download_advanced from now m d e a = download_moves (IsSaid from m d.requests.session) d e (after_message from m now d.requests) (follows_message from now m d.requests) a (λ servers h. downloads_ask_all.advances from m now servers d e a h)

pub download_ticked : {X E : Type 0} (r : Result X E) (now : ℕ) (d e : DownloadState) → OnOk r (download.TicksOn now d e) → OnErr r (download.StopsAt now d e) → GoesOn Nothing (Downloading d) (Downloading e)
download_ticked (Ok x) now d e a b = download_ticks now d e a
download_ticked (Err x) now d e a b = download_stops now d e b

-- ---- machines of any kind

-- A call of a task is one of its machine: what holds of the calls of each kind, and of one that is
-- gone, holds of all.
pub by_machine : (U : State → State → Type 0) (D : DownloadState → DownloadState → Type 0) (C : CheckState → CheckState → Type 0) (gone : Type 0) (P : Task → Task → Type 0)
    → ((u v : State) → U u v → P (Uploading u) (Uploading v)) → ((d e : DownloadState) → D d e → P (Downloading d) (Downloading e)) → ((c e : CheckState) → C c e → P (Checking c) (Checking e))
    → ((n : ℕ) (new : Task) → gone → new ≡ Gone n → P (Gone n) new) → (old new : Task) → Calls U D C gone old new → P old new
by_machine U D C gone P up down chk lost (Uploading u) (Uploading v) t = up u v t
by_machine U D C gone P up down chk lost (Downloading d) (Downloading e) t = down d e t
by_machine U D C gone P up down chk lost (Checking c) (Checking e) t = chk c e t
by_machine U D C gone P up down chk lost (Gone n) new t = lost n new t.0 t.1
by_machine U D C gone P up down chk lost (Uploading u) (Downloading e) t = absurd t
by_machine U D C gone P up down chk lost (Uploading u) (Checking e) t = absurd t
by_machine U D C gone P up down chk lost (Uploading u) (Gone n) t = absurd t
by_machine U D C gone P up down chk lost (Downloading d) (Uploading e) t = absurd t
by_machine U D C gone P up down chk lost (Downloading d) (Checking e) t = absurd t
by_machine U D C gone P up down chk lost (Downloading d) (Gone n) t = absurd t
by_machine U D C gone P up down chk lost (Checking c) (Uploading e) t = absurd t
by_machine U D C gone P up down chk lost (Checking c) (Downloading e) t = absurd t
by_machine U D C gone P up down chk lost (Checking c) (Gone n) t = absurd t

-- a message that is taken
pub by_taking : (f : Option (ℕ × Message)) (P : Task → Task → Type 0) → ((u v : State) → upload_sends.Takes gives fails u f v → P (Uploading u) (Uploading v))
    → ((d e : DownloadState) → download_sends.Takes d f e → P (Downloading d) (Downloading e)) → ((c e : CheckState) → check_sends.Takes c f e → P (Checking c) (Checking e))
    → ((n : ℕ) (new : Task) → f ≡ None → new ≡ Gone n → P (Gone n) new) → (old new : Task) → Takes old f new → P old new
by_taking f P up down chk lost old new t =
    by_machine (λ u v. upload_sends.Takes gives fails u f v) (λ d e. download_sends.Takes d f e) (λ c e. check_sends.Takes c f e) (f ≡ None) P up down chk lost old new t

pub taken : (old new : Task) (f : Option (ℕ × Message)) → Takes old f new → GoesOn Nothing old new
taken old new f t =
    by_taking f (GoesOn Nothing) (λ u v t. upload_takes u v f t) (λ d e t. download_takes d e f t) (λ c e t. check_takes c e f t) (λ n new none is. same_goes Nothing (Gone n) new is) old new t

pub handed : (old new : Task) (p : Option Piece) → TakesPiece old p new → GoesOn Nothing old new
handed (Downloading d) (Downloading e) p t = download_hands d e p t
handed (Uploading u) new p t = same_goes Nothing (Uploading u) new t.1
handed (Checking c) new p t = same_goes Nothing (Checking c) new t.1
handed (Gone number) new p t = same_goes Nothing (Gone number) new t.1
handed (Downloading d) (Uploading e) p t = absurd t
handed (Downloading d) (Checking e) p t = absurd t
handed (Downloading d) (Gone n) p t = absurd t
