-- What a download hashed to test what it read of the file that it found.
use Rattle.std.specs.Prelude.{◌≡◌, ℕ, List, Some}
use Rattle.cap_text.specs.Cap.{verify_cap_of}
use Rattle.download_segments.specs.NoCodeWord.{IsBlockIn, IsNoCodeWordIn}
use Rattle.download_file.specs.Answers.{HasRightBlock, block_of}
use Rattle.download_file.specs.State.{IsReader, ReaderState}
use Rattle.download_file.specs.Tested as file
use Rattle.download_core.specs.Given.{IsHead}
use Rattle.download_core.specs.Right.{IsRight}
use Rattle.download_core.specs.State.{DownloadState, Found}
use Rattle.download_core.specs.declared.status.DownloadStatus.TheVariants.{Inconsistent}

-- this was hashed to test what was read of the file that the download found
pub record IsTested (d : DownloadState) (input : List ℕ) : Type 0 where
  pub found : Found
  pub there : d.found ≡ Some found
  pub tested : file.IsTested d.requests.entries found.file input

-- what was tested stays so
abbrev pub StaysTested : DownloadState → DownloadState → Type 0
StaysTested old new = (input : List ℕ) → IsTested old input → IsTested new input

-- the download accepted the cap's extension block, and its file is no code word, by what the
-- download tested
pub record ShowsNoCodeWord (d : DownloadState) : Type 0 where
  pub found : Found
  pub there : d.found ≡ Some found
  pub head : IsHead (verify_cap_of d.cap) d.requests.entries found.position found.file.handout.ueb
  pub no_code_word : IsNoCodeWordIn (IsTested d) found.file.handout.ueb

-- a law: so it is where a download is inconsistent
abbrev pub InconsistentShowsNoCodeWord : Type 0
InconsistentShowsNoCodeWord =
    (d : DownloadState) → IsRight d → d.status ≡ Inconsistent → ShowsNoCodeWord d

-- a law: each right block that a reader holds leads to the roots that the extension block tells, by
-- what the download tested
abbrev pub RightBlocksLead : Type 0
RightBlocksLead = (d : DownloadState) (f : Found) (position number : ℕ) (r : ReaderState)
    → IsRight d → d.found ≡ Some f → IsReader f.file position r
    → HasRightBlock d.requests.entries r number
    → IsBlockIn (IsTested d) f.file.handout.ueb r.share number
    (block_of d.requests.entries r.supply number)
