-- What the end of an upload or a download is for its user.
use Rattle.std.specs.Prelude.{ℕ, Bool, Result, Ok, Err, if◌then◌else◌, length}
use Rattle.download_core.specs.declared.status.DownloadStatus.{DownloadStatus}
use Rattle.download_core.specs.declared.status.DownloadStatus.TheVariants as downloads
use Rattle.upload_core.specs.declared.status.UploadStatus.{UploadStatus}
use Rattle.upload_core.specs.declared.status.UploadStatus.TheVariants.{Running, Happy}
use Rattle.upload_core.specs.declared.status.UploadStatus.TheVariants.{Unhappy, Failed}
use Rattle.grid_faults.specs.declared.fault.Fault.{Fault}
use Rattle.grid_faults.specs.declared.fault.Fault.TheVariants as faults
use Rattle.grid_rules.specs.Becoming.{fault_of_piece}

-- the happiness that was reached, or the fault
abbrev pub ending_of : ℕ → UploadStatus → Result ℕ Fault
ending_of wanted Running = Err faults.TurnLimit
ending_of wanted (Happy pairs) = Ok (length pairs)
ending_of wanted (Unhappy reached blocking) =
    Err (faults.Unhappy reached wanted)
ending_of wanted (Failed fault) = Err (fault_of_piece fault)

-- Nothing, where all bytes of the range were handed out, or the fault. A download fails for want of
-- memory alone.
abbrev pub end_of_download : DownloadStatus → Result (Unit {0}) Fault
end_of_download downloads.Running = Err faults.TurnLimit
end_of_download downloads.Done = Ok tt
end_of_download downloads.NotEnoughShares = Err faults.NotEnoughShares
end_of_download downloads.Inconsistent = Err faults.Inconsistent
end_of_download downloads.Failed = Err faults.OutOfMemory

-- 0 where all bytes agree that a script's world handed out, else that of inconsistent shares
abbrev pub world_status : Bool → ℕ
world_status agrees = if agrees then 0 else 6
