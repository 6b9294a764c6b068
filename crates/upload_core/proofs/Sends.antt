-- What is sent next.
use Rattle.std.proofs.Common.{◌≡◌, ℕ, List, All, Option, Some, None, Result, Ok, Err, true, false, refl, sym, ap, subst, ◌∙◌, true≢false}
use Rattle.std.specs.Prelude.{slice_get}
use Rattle.std.proofs.lemmas.Option.{get_or_from_slice_get, slice_get_within}
use Rattle.wire.specs.declared.message.Body.{Body}
use Rattle.wire.specs.declared.message.Message.{Message}
use Rattle.request_record.specs.declared.requests.Asked.{Asked}
use Rattle.request_record.specs.declared.requests.Asked.TheVariants.{Holdings, Allocation, Writing, Closing, Reading, Aborting}
use Rattle.request_record.specs.declared.requests.Outcome.{Outcome}
use Rattle.request_record.specs.declared.requests.Outcome.TheVariants.{Unawaited, Outstanding, Answered, Lost}
use Rattle.request_record.specs.declared.requests.Request.{Request}
use Rattle.request_record.specs.Record.{IsRecord, is_current, is_current_in, is_outstanding}
use Rattle.request_record.specs.Asking.{message_at, one_sent}
use Rattle.upload_core.specs.declared.pieces.PieceFault.{PieceFault}
use Rattle.upload_core.specs.declared.status.UploadStatus.{UploadStatus}
use Rattle.upload_core.specs.declared.status.UploadStatus.TheVariants.{Running, Happy, Unhappy, Failed}
use Rattle.upload_core.specs.Course.{IsKept, IsWaitedFor, is_unawaited}
use Rattle.upload_core.specs.Right.{has_ended}
use Rattle.upload_core.specs.State.{UploadState, with_record}
use Rattle.upload_core.specs.Sending.{AsksAt, Faults, IsBody, Takes, Uploading, ceases, first_of, first_to_send, sends}
use Rattle.upload_core.specs.Transfers.{is_transfer}
use Rattle.upload_core.proofs.Counts.{quiet_of}

-- an upload that ended sends nothing of a transfer any more
all_at : {A : Type 0} (P : A → Type 0) (xs : List A) (i : ℕ) (x : A) → All P xs → slice_get xs i ≡ Some x → P x
all_at P xs i x all e = subst P (get_or_from_slice_get xs i x x e) (all i x (slice_get_within xs i x e))

over_or_awaited : (o : Outcome) → is_current o ≡ true → is_outstanding o ≡ false → is_unawaited o ≡ true
over_or_awaited Unawaited c w = refl
over_or_awaited Outstanding c w = absurd cc
over_or_awaited (Answered body) c w = absurd cc
over_or_awaited Lost c w = absurd cc

runs_where_asked : (u : UploadState) (position : ℕ) (r : Request) → IsKept u → IsRecord u.requests → first_to_send u ≡ Some position → slice_get u.requests.entries position ≡ Some r → is_transfer r.asked ≡ true
    → u.status ≡ Running
runs_where_asked u position r kept recorded first there transfer = by u.status refl first
  where
    over : has_ended u.status ≡ true → slice_get u.requests.outgoing 0 ≡ Some position → ⊥
    over ended next =
        let quiet = quiet_of u.requests.entries (kept.stands.settled ended) position r there in
        let current : is_current_in (slice_get u.requests.entries position) ≡ true = all_at (λ p. is_current_in (slice_get u.requests.entries p) ≡ true) u.requests.outgoing 0 position recorded.current next in
        let unawaited = over_or_awaited r.outcome (subst (λ (o : Option Request). is_current_in o ≡ true) there current) quiet in
        true≢false (sym unawaited ∙ all_at IsWaitedFor u.requests.entries position r kept.course.waited there transfer)

    by : (s : UploadStatus) → u.status ≡ s → first_of s u.requests.outgoing ≡ Some position → u.status ≡ Running
    by Running e f = e
    by (Happy pairs) e f = absurd (over (ap has_ended e) f)
    by (Unhappy reached blocking) e f = absurd (over (ap has_ended e) f)
    by (Failed fault) e f = absurd cc

faults_transfer : {P : Type 0} (fails : P → ℕ → ℕ → ℕ → PieceFault → P → Type 0) (old new : P) (asked : Asked) (fault : PieceFault) → Faults fails old asked fault new → is_transfer asked ≡ true
faults_transfer fails old new Holdings fault f = absurd f
faults_transfer fails old new (Allocation share len) fault f = absurd f
faults_transfer fails old new (Writing share offset len) fault f = refl
faults_transfer fails old new (Closing share) fault f = absurd f
faults_transfer fails old new (Reading share offset len) fault f = absurd f
faults_transfer fails old new (Aborting share) fault f = absurd f

module _ {P : Type 0} (gives : P → ℕ → ℕ → List ℕ → P → Type 0) (fails : P → ℕ → ℕ → ℕ → PieceFault → P → Type 0) (old mid : Uploading P) (position server : ℕ) (asked : Asked) (told : Result Body PieceFault)
    (first : first_to_send old.course ≡ Some position) (asks : AsksAt old.course position server asked) (body : IsBody gives fails old.course.goal.cap.storage_index old.pieces asked told mid.pieces) (same : mid.course ≡ old.course) where
  pub sends_first : (b : Body) (m : Message) (new : UploadState) → told ≡ Ok b → m ≡ message_at position b mid.course.requests → new ≡ with_record mid.course (one_sent mid.course.requests) → Takes gives fails old (Some (server, m)) (record { pieces = mid.pieces; course = new })
  sends_first b m new is is-message sent =
      sends position server asked b first asks
      (subst (λ (t : Result Body PieceFault). IsBody gives fails old.course.goal.cap.storage_index old.pieces asked t mid.pieces) is body)
      (ap (λ (x : Message). Some (server, x)) (is-message ∙ ap (λ (u : UploadState). message_at position b u.requests) same))
      (sent ∙ ap (λ (u : UploadState). with_record u (one_sent u.requests)) same)

  pub ceases_now : (fault : PieceFault) (new : UploadState) → IsKept old.course → IsRecord old.course.requests → told ≡ Err fault → new ≡ record mid.course { status = Failed fault } → Takes gives fails old None (record { pieces = mid.pieces; course = new })
  ceases_now fault new kept recorded is ended =
      let faults : Faults fails old.pieces asked fault mid.pieces = subst (λ (t : Result Body PieceFault). IsBody gives fails old.course.goal.cap.storage_index old.pieces asked t mid.pieces) is body in
      let request : Request = asks.0 in
      let transfer : is_transfer request.asked ≡ true = ap is_transfer asks.3 ∙ faults_transfer fails old.pieces mid.pieces asked fault faults in
      ceases position server asked fault (runs_where_asked old.course position request kept recorded first asks.1 transfer) first asks faults
      refl
      (ended ∙ ap (λ (u : UploadState). record u { status = Failed fault }) same)
