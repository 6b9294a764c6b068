-- What became of an operation.
use Rattle.std.specs.Prelude.{ℕ, length}
use Rattle.upload_core.specs.declared.pieces.PieceFault.TheVariants.{OutOfMemory, SourceChanged}
use Rattle.upload_core.specs.declared.status.UploadStatus.{UploadStatus}
use Rattle.upload_core.specs.declared.status.UploadStatus.TheVariants as uploads
use Rattle.download_core.specs.declared.status.DownloadStatus.{DownloadStatus}
use Rattle.download_core.specs.declared.status.DownloadStatus.TheVariants as downloads
use Rattle.checker.specs.declared.status.CheckStatus.{CheckStatus}
use Rattle.checker.specs.declared.status.CheckStatus.TheVariants as checks
use Rattle.world_operations.specs.declared.job.Job.{Job}
use Rattle.world_operations.specs.declared.job.Job.TheVariants.{Upload, Download, Check}
use Rattle.world_operations.specs.declared.job.Job.TheVariants.{Changing, Repair, NoRepair}
use Rattle.world_operations.specs.declared.job.Unmade.{Unmade}
use Rattle.world_operations.specs.declared.job.Unmade.TheVariants as unmade
use Rattle.world_operations.specs.declared.operation.Life.{Life}
use Rattle.world_operations.specs.declared.operation.Life.TheVariants as lives
use Rattle.world_operations.specs.declared.operation.Operation.{Operation}
use Rattle.world_operations.specs.declared.status.Status.{Status}
use Rattle.world_operations.specs.declared.status.Status.TheVariants.{Running, Forgotten, Happy}
use Rattle.world_operations.specs.declared.status.Status.TheVariants.{Unhappy, Done}
use Rattle.world_operations.specs.declared.status.Status.TheVariants.{NotEnoughShares}
use Rattle.world_operations.specs.declared.status.Status.TheVariants.{Inconsistent, Failed}
use Rattle.world_operations.specs.declared.task.Task.{Task}
use Rattle.world_operations.specs.declared.task.Task.TheVariants.{Uploading, Downloading}
use Rattle.world_operations.specs.declared.task.Task.TheVariants.{Checking, Gone}

-- on how many servers the shares of an upload or of a repair have to be
abbrev pub happy_of : Job → ℕ
happy_of (Upload file secret p) = p.happy
happy_of (Changing file other after secret p) = p.happy
happy_of (Download cap from to) = 0
happy_of (Check cap) = 0
happy_of (Repair cap happy) = happy
happy_of (NoRepair cap why) = 0

-- An upload tells how many pairs it names, the happiness that it reached and the one wanted, or why
-- it failed.
abbrev pub upload_status : ℕ → UploadStatus → Status
upload_status wanted uploads.Running = Running
upload_status wanted (uploads.Happy pairs) = Happy (length pairs)
upload_status wanted (uploads.Unhappy reached blocking) = Unhappy reached wanted
upload_status wanted (uploads.Failed fault) = Failed fault

abbrev pub download_status : DownloadStatus → Status
download_status downloads.Running = Running
download_status downloads.Done = Done
download_status downloads.NotEnoughShares = NotEnoughShares
download_status downloads.Inconsistent = Inconsistent
download_status downloads.Failed = Failed OutOfMemory

abbrev pub check_status : CheckStatus → Status
check_status checks.Running = Running
check_status checks.Done = Done
check_status checks.Failed = Failed OutOfMemory

-- why a repair ended at once
abbrev pub unmade_status : Unmade → Status
unmade_status unmade.NotEnoughShares = NotEnoughShares
unmade_status unmade.Inconsistent = Inconsistent

-- Without a machine is a repair that made no shares, or an upload whose source changed as it began.
abbrev pub gone_status : Job → Status
gone_status (NoRepair cap why) = unmade_status why
gone_status job = Failed SourceChanged

-- what the machine of a job came to
abbrev pub machine_status : Job → Task → Status
machine_status job (Uploading u) = upload_status (happy_of job) u.course.status
machine_status job (Downloading d) = download_status d.status
machine_status job (Checking c) = check_status c.status
machine_status job (Gone number) = gone_status job

-- A restart forgets what runs, and leaves what ended as it is. What was refused found no memory.
abbrev pub lived : Life → Status → Status
lived lives.Live status = status
lived lives.Refused status = Failed OutOfMemory
lived lives.Forgotten Running = Forgotten
lived lives.Forgotten status = status

abbrev pub status_of : Operation → Status
status_of op = lived op.life (machine_status op.job op.task)
