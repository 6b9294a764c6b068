-- What holds of each download.
use Rattle.std.specs.Prelude.{◌≡◌, ◌≢◌, ℕ, ◌<◌, ◌≤◌}
use Rattle.cap_text.specs.Cap.{verify_cap_of}
use Rattle.request_record.specs.Asking.{AsksOnce}
use Rattle.request_record.specs.Record.{IsRecord, outstanding_count}
use Rattle.download_segments.specs.Pieces.{AreConsecutive}
use Rattle.download_core.specs.declared.status.DownloadStatus.TheVariants.{Running, Done, Failed}
use Rattle.download_core.specs.declared.status.DownloadStatus.TheVariants.{NotEnoughShares}
use Rattle.download_core.specs.declared.status.DownloadStatus.TheVariants.{Inconsistent}
use Rattle.download_core.specs.Causes.{AreCaused}
use Rattle.download_core.specs.Ends.{HasNoCodeWord, HasTooFew}
use Rattle.download_core.specs.Given.{GivenIsProved, IsFileIfFound, IsRightIfFound}
use Rattle.download_core.specs.Reads.{AsksOrReads, ReadsBeside, ReadsNoMore}
use Rattle.download_core.specs.State.{DownloadState, accepted, handed, ready}

-- The pieces follow one another from the offset up to which bytes were taken, and none passes the
-- range. All of them are proved by the extension block that is accepted. Where the download is
-- done, they end at the range's end; while it runs, a request waits for its answer. It gives up
-- only where too few shares are left, and is inconsistent only where the file is no code word. A
-- server is asked which shares it holds, and to read shares that it offered, and nothing else. None
-- is asked the same thing twice, nor for a byte of a share twice, and no more is read than may be.
-- No request is sent more than four times, and none that was answered or lost is to send. Each
-- share that is blamed failed its check.
pub record IsRight (d : DownloadState) : Type 0 where
  pub end : ℕ
  pub consecutive : AreConsecutive (handed d) (ready d) end
  pub within : end ≤ d.to
  pub proved : GivenIsProved d (accepted d)
  pub file : IsFileIfFound d.cap d.from d.to d.requests.entries d.found
  pub made : IsRightIfFound d.found
  pub done : d.status ≡ Done → end ≡ d.to
  pub works : d.status ≡ Running → 0 < outstanding_count d.requests.entries
  pub few : d.status ≡ NotEnoughShares → HasTooFew d
  pub inconsistent : d.status ≡ Inconsistent → HasNoCodeWord d.requests.entries d.found
  pub asks : AsksOrReads d.requests.entries
  pub once : AsksOnce d.requests.entries
  pub recorded : IsRecord d.requests
  pub reads : ReadsNoMore d.requests.entries d.found
  pub beside : d.status ≢ Failed → ReadsBeside d.requests.entries d.blamed d.found
  pub causes : AreCaused (verify_cap_of d.cap) d.requests.entries d.found d.blamed
