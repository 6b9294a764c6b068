-- What holds of each upload.
use Rattle.std.specs.Prelude.{◌≡◌, ℕ, ◌<◌, Bool, true, false, List}
use Rattle.request_record.specs.Asking.{AsksOnce}
use Rattle.request_record.specs.Record.{IsRecord, outstanding_count}
use Rattle.upload_core.specs.declared.status.UploadStatus.{UploadStatus}
use Rattle.upload_core.specs.declared.status.UploadStatus.TheVariants.{Running, Happy}
use Rattle.upload_core.specs.declared.status.UploadStatus.TheVariants.{Unhappy, Failed}
use Rattle.upload_core.specs.State.{UploadState}
use Rattle.upload_core.specs.Rounds.{EndsAs, IsHopeless, IsSettled}

-- did it end by what was acknowledged?
abbrev pub has_ended : UploadStatus → Bool
has_ended Running = false
has_ended (Happy pairs) = true
has_ended (Unhappy reached blocking) = true
has_ended (Failed fault) = false

-- A running upload waits for an answer. No server is asked the same thing twice, no request is sent
-- more than four times, and none that was answered or lost is to send. What ended is settled, and
-- ended as its record says; Unhappy only where no placing would be enough.
pub record IsRight (u : UploadState) : Type 0 where
  pub works : u.status ≡ Running → 0 < outstanding_count u.requests.entries
  pub once : AsksOnce u.requests.entries
  pub recorded : IsRecord u.requests
  pub settled : has_ended u.status ≡ true → IsSettled u.requests.entries
  pub over : has_ended u.status ≡ true → EndsAs u.goal u.happy u.requests.entries u.status
  pub hopeless : (reached : ℕ) (blocking : List ℕ) → u.status ≡ Unhappy reached blocking
      → IsHopeless u.goal u.happy u.requests.entries
