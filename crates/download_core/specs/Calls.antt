-- What the calls of a download do, as those of an operation.
use Rattle.std.specs.Prelude.{◌≡◌, ◌⊎◌, Bool, true, false}
use Rattle.request_record.specs.Operations.{OperationCalls}
use Rattle.download_core.specs.declared.status.DownloadStatus.{DownloadStatus}
use Rattle.download_core.specs.declared.status.DownloadStatus.TheVariants.{Running, Done, Failed}
use Rattle.download_core.specs.declared.status.DownloadStatus.TheVariants.{NotEnoughShares}
use Rattle.download_core.specs.declared.status.DownloadStatus.TheVariants.{Inconsistent}
use Rattle.download_core.specs.Moves.{Advances, TicksOn}
use Rattle.download_core.specs.Sending.{Takes}
use Rattle.download_core.specs.State.{DownloadState}

abbrev pub is_running : DownloadStatus → Bool
is_running Running = true
is_running Done = false
is_running NotEnoughShares = false
is_running Inconsistent = false
is_running Failed = false

-- what a call does without memory: nothing, or the download fails
abbrev pub GivesUp : DownloadState → DownloadState → Type 0
GivesUp old new = (new ≡ old) ⊎ (new.status ≡ Failed)

abbrev pub download_calls : OperationCalls DownloadState
download_calls = record {
  requests = λ d. d.requests;
  runs = λ d. is_running d.status;
  takes = λ old taken new. Takes old taken new;
  hears = λ old from m now new. Advances from m now old new;
  ticks = λ old now new. TicksOn now old new;
  gives_up = λ old new. GivesUp old new;
}
