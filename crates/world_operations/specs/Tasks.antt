-- What the kinds of operation have in common.
use Rattle.std.specs.Prelude.{◌≡◌, ◌≢◌, ℕ, Bool, true, false, List, [], ⊤, Some, slice_get}
use Rattle.cap_text.specs.Cap.{verify_cap_of}
use Rattle.request_record.specs.Asking.{fresh}
use Rattle.request_record.specs.Record.{RequestsState}
use Rattle.placement.specs.Matching.{Pair}
use Rattle.upload_core.specs.declared.status.UploadStatus.{UploadStatus}
use Rattle.upload_core.specs.declared.status.UploadStatus.TheVariants as uploads
use Rattle.upload_core.specs.Right as upload
use Rattle.download_shares.specs.declared.holding.Blame.{Blame}
use Rattle.download_core.specs.declared.status.DownloadStatus.{DownloadStatus}
use Rattle.download_core.specs.declared.status.DownloadStatus.TheVariants as downloads
use Rattle.download_core.specs.Right as download
use Rattle.checker.specs.declared.status.CheckStatus.{CheckStatus}
use Rattle.checker.specs.declared.status.CheckStatus.TheVariants as checks
use Rattle.checker.specs.Right as check
use Rattle.world_operations.specs.declared.upload_pieces.UploadPieces.TheVariants.{Whole}
use Rattle.world_operations.specs.declared.task.Task.{Task}
use Rattle.world_operations.specs.declared.task.Task.TheVariants.{Uploading, Downloading}
use Rattle.world_operations.specs.declared.task.Task.TheVariants.{Checking, Gone}

-- the record of what it asked; of one that is gone only its number is left
abbrev pub requests_of : Task → RequestsState
requests_of (Uploading u) = u.course.requests
requests_of (Downloading d) = d.requests
requests_of (Checking c) = c.requests
requests_of (Gone number) = fresh number 0

-- the storage index that it is about
abbrev pub index_of : Task → List ℕ
index_of (Uploading u) = u.course.goal.cap.storage_index
index_of (Downloading d) = (verify_cap_of d.cap).storage_index
index_of (Checking c) = c.cap.storage_index
index_of (Gone number) = []

-- does an upload, a download or a check of this status still run?
abbrev pub upload_runs : UploadStatus → Bool
upload_runs uploads.Running = true
upload_runs (uploads.Happy pairs) = false
upload_runs (uploads.Unhappy reached blocking) = false
upload_runs (uploads.Failed fault) = false

abbrev pub download_runs : DownloadStatus → Bool
download_runs downloads.Running = true
download_runs downloads.Done = false
download_runs downloads.NotEnoughShares = false
download_runs downloads.Inconsistent = false
download_runs downloads.Failed = false

abbrev pub check_runs : CheckStatus → Bool
check_runs checks.Running = true
check_runs checks.Done = false
check_runs checks.Failed = false

-- does its machine still run?
abbrev pub runs : Task → Bool
runs (Uploading u) = upload_runs u.course.status
runs (Downloading d) = download_runs d.status
runs (Checking c) = check_runs c.status
runs (Gone number) = false

-- what each machine's calls ensure of it
abbrev pub IsRightTask : Task → Type 0
IsRightTask (Uploading u) = upload.IsRight u.course
IsRightTask (Downloading d) = download.IsRight d
IsRightTask (Checking c) = check.IsRight c
IsRightTask (Gone number) = ⊤

-- it is an upload that answered Happy with these pairs
abbrev pub IsHappyTask : Task → List Pair → Type 0
IsHappyTask (Uploading u) pairs = u.course.status ≡ uploads.Happy pairs
IsHappyTask (Downloading d) pairs = ⊥
IsHappyTask (Checking c) pairs = ⊥
IsHappyTask (Gone number) pairs = ⊥

-- it is an upload of these shares, in memory
abbrev pub HasShares : Task → List (List ℕ) → Type 0
HasShares (Uploading u) shares = u.pieces ≡ Whole shares
HasShares (Downloading d) shares = ⊥
HasShares (Checking c) shares = ⊥
HasShares (Gone number) shares = ⊥

-- it is a download that ended so
abbrev pub HasEnded : Task → DownloadStatus → Type 0
HasEnded (Downloading d) status = (d.status ≡ status) × (status ≢ downloads.Running)
HasEnded (Uploading u) status = ⊥
HasEnded (Checking c) status = ⊥
HasEnded (Gone number) status = ⊥

-- it is a download that blames a server for a share, at this position of its list
abbrev pub HasBlamed : Task → ℕ → Blame → Type 0
HasBlamed (Downloading d) position b = slice_get d.blamed position ≡ Some b
HasBlamed (Uploading u) position b = ⊥
HasBlamed (Checking c) position b = ⊥
HasBlamed (Gone number) position b = ⊥
