-- Bytes are handed out only with what proves them.
use Rattle.std.specs.Prelude.{◌≡◌, ℕ, ◌/◌, List, [], length, All, Option, Some, None, slice_get}
use Rattle.cap_text.specs.Cap.{ReadCapValue, VerifyCapValue, verify_cap_of}
use Rattle.ueb.specs.Shape.{Contents}
use Rattle.share_verify.specs.CapBlock.{IsUebFor}
use Rattle.wire.specs.declared.message.Body.TheVariants.{Data}
use Rattle.request_record.specs.declared.requests.Asked.TheVariants.{Reading}
use Rattle.request_record.specs.declared.requests.Outcome.TheVariants.{Answered}
use Rattle.request_record.specs.declared.requests.Request.{Request}
use Rattle.download_segments.specs.Pieces.{IsGiven}
use Rattle.download_file.specs.Answers.{IsRead}
use Rattle.download_file.specs.Right.{IsFile}
use Rattle.download_core.specs.State.{DownloadState, Found, ready}

-- the answer to the request at this position is the cap's extension block
pub record IsHead (cap : VerifyCapValue) (entries : List Request) (position : ℕ) (u : Contents)
    : Type 0 where
  pub request : Request
  pub there : slice_get entries position ≡ Some request
  pub share : ℕ
  pub offset : ℕ
  pub len : ℕ
  pub asked : request.asked ≡ Reading share offset len
  pub text : List ℕ
  pub answer : request.outcome ≡ Answered (Data text)
  pub whole : length text ≡ len
  pub block : IsUebFor cap text u

-- The file is the one of the cap, from an offset up to another, by the answer to a request. What
-- was read of it, and each segment that was made, are of answers in the record.
pub record IsFileOfCap (cap : ReadCapValue) (from to : ℕ) (entries : List Request) (f : Found)
    : Type 0 where
  pub head : IsHead (verify_cap_of cap) entries f.position f.file.handout.ueb
  pub key : f.file.handout.key ≡ cap.key
  pub first : f.file.first ≡ from / f.file.handout.geometry.segment_size
  pub to_is : f.file.handout.to ≡ to
  pub answers : IsRead entries f.file

-- so it is once an extension block is accepted
abbrev pub IsFileIfFound : ReadCapValue → ℕ → ℕ → List Request → Option Found → Type 0
IsFileIfFound cap from to entries None = Unit {0}
IsFileIfFound cap from to entries (Some f) = IsFileOfCap cap from to entries f

-- and what is read and made of it is right
abbrev pub IsRightIfFound : Option Found → Type 0
IsRightIfFound None = Unit {0}
IsRightIfFound (Some f) = IsFile f.file

-- All pieces are proved by one extension block, the one that is accepted. Before, there is none.
abbrev pub GivenIsProved : DownloadState → Option ℕ → Type 0
GivenIsProved d None = ready d ≡ []
GivenIsProved d (Some position) = (u : Contents)
    × IsHead (verify_cap_of d.cap) d.requests.entries position u × All (IsGiven d.cap.key u)
    (ready d)
