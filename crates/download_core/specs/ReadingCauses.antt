-- Why shares are blamed while a file is read.
use Rattle.std.specs.Prelude.{◌≡◌, ◌⊎◌, ℕ, ◌<◌, List, Some, slice_get}
use Rattle.cap_text.specs.Cap.{VerifyCapValue}
use Rattle.wire.specs.declared.message.Body.TheVariants.{Data}
use Rattle.request_record.specs.declared.requests.Asked.TheVariants.{Reading}
use Rattle.request_record.specs.declared.requests.Outcome.TheVariants.{Answered}
use Rattle.request_record.specs.declared.requests.Request.{Request}
use Rattle.share_verify.specs.declared.check.Check.{Check}
use Rattle.share_verify.specs.declared.check.Check.TheVariants as checks
use Rattle.download_shares.specs.Table.{IsHolding}
use Rattle.download_shares.specs.declared.holding.Blame.{Blame}
use Rattle.download_shares.specs.declared.holding.Holding.{Holding}
use Rattle.download_shares.specs.Causes.{IsBeginningFault}
use Rattle.download_shares.specs.BeginningState.{BeginningsState}
use Rattle.download_file.specs.Answers.{IsRead, KeepsAnswers}
use Rattle.download_file.specs.Changes.{IsSameFile}
use Rattle.download_file.specs.Making.{RefutesReader}
use Rattle.download_file.specs.Right.{IsFile}
use Rattle.download_file.specs.State.{FileState, IsHeard, copy, copy_of}
use Rattle.download_file.specs.Taking.{IsRefused}
use Rattle.download_core.specs.Reading.{IsOf}
use Rattle.download_core.specs.ReadingState.{ReadingState}

-- When the file was as `file`, from which it went on, a reader of it that was read or put aside
-- then read the blamed share at the blamed server. That server was asked for the part of that share
-- that waited first of the reader, and the bytes that it answered were refused.
pub record IsPartFault (entries : List Request) (f : FileState) (b : Blame) : Type 0 where
  pub file : FileState
  pub right : IsFile file
  pub same : IsSameFile file f
  pub reader : ℕ
  pub live : IsHeard file reader
  pub bytes : List ℕ
  pub refused : IsRefused file reader bytes b.check
  pub reads : copy_of refused.r ≡ copy b.server b.share
  pub request : Request
  pub there : slice_get entries refused.first.position ≡ Some request
  pub of_server : request.server ≡ b.server
  pub asked : request.asked ≡ Reading b.share refused.first.wanted.read.offset
      refused.first.wanted.read.length
  pub answer : request.outcome ≡ Answered (Data bytes)

-- When the file was as `file`, from which it went on, a reader of it read the blamed share at the
-- blamed server. The block of the next segment that it held, of what that server answered, is not
-- the one that the share's block tree told.
pub record IsBlockFault (entries : List Request) (f : FileState) (b : Blame) : Type 0 where
  pub file : FileState
  pub right : IsFile file
  pub same : IsSameFile file f
  pub answered : List Request
  pub keeps : KeepsAnswers answered entries
  pub read : IsRead answered file
  pub reader : ℕ
  pub refuted : RefutesReader answered file reader
  pub reads : copy_of refuted.r ≡ copy b.server b.share
  pub check : b.check ≡ checks.Data

-- why a message brings a share to be blamed, one whose number the file has
abbrev pub HasCause : VerifyCapValue → List Request → FileState → Blame → Type 0
HasCause cap entries f b = (IsBeginningFault cap f.handout.geometry entries b
    × (b.share < f.handout.geometry.total)) ⊎ IsPartFault entries f b

-- it is the share that the reader reads, and this check
pub record IsBlameOf (s : BeginningsState) (r : ReadingState) (reader : ℕ) (check : Check)
    (b : Blame) : Type 0 where
  pub holding : ℕ
  pub of : IsOf r reader holding
  pub held : Holding
  pub is : IsHolding s.holdings.table holding held
  pub of_server : b.server ≡ held.server
  pub of_share : b.share ≡ held.share
  pub check_is : b.check ≡ check
