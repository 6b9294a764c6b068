-- A download: what it is for, its servers, its record, and what it has.
use Rattle.std.specs.Prelude.{ℕ, List, [], Option, Some, None}
use Rattle.cap_text.specs.Cap.{ReadCapValue}
use Rattle.request_record.specs.Record.{RequestsState}
use Rattle.download_shares.specs.declared.holding.Blame.{Blame}
use Rattle.download_segments.specs.declared.piece.Piece.{Piece}
use Rattle.download_file.specs.State.{FileState}
use Rattle.download_core.specs.declared.status.DownloadStatus.{DownloadStatus}

-- The file of a download whose extension block is accepted. `position`: the request whose answer is
-- the extension block. `file`: what is read, and what was made of it.
pub record Found : Type 0 where
  pub position : ℕ
  pub file : FileState

-- The bytes `from` to before `to` of the cap's file are wanted.
pub record DownloadState : Type 0 where
  pub cap : ReadCapValue
  pub from : ℕ
  pub to : ℕ
  pub servers : List ℕ
  pub requests : RequestsState
  pub found : Option Found
  pub blamed : List Blame
  pub status : DownloadStatus

-- the position of the request whose answer is the extension block, where one is accepted
abbrev pub accepted_in : Option Found → Option ℕ
accepted_in None = None
accepted_in (Some f) = Some f.position

-- the pieces that were made and not taken yet, in order
abbrev pub ready_in : Option Found → List Piece
ready_in None = []
ready_in (Some f) = f.file.handout.ready

-- the offset up to which bytes were taken, of those from an offset on
abbrev pub handed_in : ℕ → Option Found → ℕ
handed_in from None = from
handed_in from (Some f) = f.file.handout.handed

abbrev pub accepted : DownloadState → Option ℕ
accepted d = accepted_in d.found

abbrev pub ready : DownloadState → List Piece
ready d = ready_in d.found

abbrev pub handed : DownloadState → ℕ
handed d = handed_in d.from d.found

-- the same download with another record
abbrev pub with_record : DownloadState → RequestsState → DownloadState
with_record d r = record d { requests = r }
