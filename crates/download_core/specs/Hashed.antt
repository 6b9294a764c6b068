-- What was given of a download, and what was hashed for it.
use Rattle.std.specs.Prelude.{◌≡◌, ℕ, List, Option, Some}
use Rattle.ueb.specs.Shape.{Contents}
use Rattle.request_record.specs.declared.requests.Request.{Request}
use Rattle.download_segments.specs.Agreement as agreement
use Rattle.download_segments.specs.declared.piece.Piece.{Piece}
use Rattle.download_file.specs.Answers.{AnsweredWith}
use Rattle.download_file.specs.Answers as file
use Rattle.download_file.specs.Hashed as file_hashed
use Rattle.download_core.specs.Right.{IsRight}
use Rattle.download_core.specs.State.{DownloadState, Found}

-- the piece is given by the file that was found
pub record IsGivenIn (entries : List Request) (o : Option Found) (p : Piece) : Type 0 where
  pub found : Found
  pub there : o ≡ Some found
  pub given : file.IsGivenBy entries found.file p

abbrev pub IsGivenBy : DownloadState → Piece → Type 0
IsGivenBy d p = IsGivenIn d.requests.entries d.found p

-- This was hashed by the download: the extension block that it accepted, or for the file that it
-- found.
pub record IsHashed (d : DownloadState) (input : List ℕ) : Type 0 where
  pub found : Found
  pub there : d.found ≡ Some found
  pub block : List ℕ
  pub answer : AnsweredWith d.requests.entries found.position block
  pub hashed : file_hashed.IsHashedWith d.requests.entries found.file block input

-- what was given stays given
abbrev pub StaysGiven : DownloadState → DownloadState → Type 0
StaysGiven old new = (p : Piece) → IsGivenBy old p → IsGivenBy new p

-- what was hashed stays hashed
abbrev pub StaysHashed : DownloadState → DownloadState → Type 0
StaysHashed old new = (input : List ℕ) → IsHashed old input → IsHashed new input

-- the piece is proved, and all that is hashed for it was hashed by the download
pub record IsShown (d : DownloadState) (p : Piece) : Type 0 where
  pub block : List ℕ
  pub contents : Contents
  pub given : agreement.IsGivenIn (IsHashed d) d.cap block contents p

-- a law: so is each piece that was given
abbrev pub GivenAreShown : Type 0
GivenAreShown = (d : DownloadState) (p : Piece) → IsRight d → IsGivenBy d p → IsShown d p
