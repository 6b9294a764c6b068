-- The numbers of the refusals of a download's start.
use Rattle.std.specs.Prelude.{ℕ}
use Rattle.download_core.specs.declared.status.DownloadError.{DownloadError}
use Rattle.download_core.specs.declared.status.DownloadError.TheVariants.{OutOfMemory, BadRange}

abbrev pub refusal_number : DownloadError → ℕ
refusal_number OutOfMemory = 1
refusal_number BadRange = 73
