-- An upload as an operation.
use Rattle.std.specs.Prelude.{◌≡◌, ◌⊎◌, ℕ, List, Bool, true, false, ◌||◌, is_some}
use Rattle.request_record.specs.Operations.{OperationCalls}
use Rattle.upload_core.specs.Moves.{Advances, TicksOn}
use Rattle.upload_core.specs.Sending.{Takes, Uploading, first_to_send}
use Rattle.upload_core.specs.State.{UploadState}
use Rattle.upload_core.specs.declared.pieces.PieceFault.{PieceFault}
use Rattle.upload_core.specs.declared.pieces.PieceFault.TheVariants.{OutOfMemory}
use Rattle.upload_core.specs.declared.status.UploadStatus.{UploadStatus}
use Rattle.upload_core.specs.declared.status.UploadStatus.TheVariants.{Running, Happy}
use Rattle.upload_core.specs.declared.status.UploadStatus.TheVariants.{Unhappy, Failed}

abbrev pub is_running : UploadStatus → Bool
is_running Running = true
is_running (Happy pairs) = false
is_running (Unhappy reached blocking) = false
is_running (Failed fault) = false

-- An upload is carried on while it runs, and until its last message, an Abort, was sent.
abbrev pub is_to_carry : UploadState → Bool
is_to_carry u = is_running u.status || is_some (first_to_send u)

-- a call that moves the upload's course alone
pub record MovesCourse {P : Type 0} (moves : UploadState → UploadState → Type 0)
    (old new : Uploading P) : Type 0 where
  pub moved : moves old.course new.course
  pub pieces : new.pieces ≡ old.pieces

-- what a call does without memory: nothing, or the upload fails
abbrev pub GivesUp : {P : Type 0} → Uploading P → Uploading P → Type 0
GivesUp old new =
    (new ≡ old) ⊎ MovesCourse (λ was is. is.status ≡ Failed OutOfMemory) old new

-- what the calls of an upload do, by what its source of pieces gives
abbrev pub upload_calls : {P : Type 0} → (P → ℕ → ℕ → List ℕ → P → Type 0)
    → (P → ℕ → ℕ → ℕ → PieceFault → P → Type 0) → OperationCalls (Uploading P)
upload_calls gives fails = record {
  requests = λ u. u.course.requests;
  runs = λ u. is_to_carry u.course;
  takes = Takes gives fails;
  hears = λ old from m now new. MovesCourse (Advances from m now) old new;
  ticks = λ old now new. MovesCourse (TicksOn now) old new;
  gives_up = GivesUp;
}
