-- An upload: what it is for, its servers, its record, and how far it is.
use Rattle.std.specs.Prelude.{ℕ, List}
use Rattle.cap_text.specs.Cap.{VerifyCapValue}
use Rattle.request_record.specs.Record.{RequestsState}
use Rattle.upload_core.specs.declared.status.UploadStatus.{UploadStatus}

-- what is to be placed: the shares of the file of a verify cap, which has its storage index, by the
-- digest of each share and the length that all of them have; and how many pieces of a share may
-- wait for their answers at one server, at least one
pub record Goal : Type 0 where
  pub cap : VerifyCapValue
  pub digests : List (List ℕ)
  pub share_length : ℕ
  pub ahead : ℕ

-- the same, where so many pieces of a share may wait at one server
abbrev pub with_ahead : ℕ → Goal → Goal
with_ahead ahead g = record g { ahead = ahead }

-- `happy`: the happiness that is wanted. `servers`: all of them, in the order of the file. `round`:
-- the position of the first transfer of the last placing, 0 before the first.
pub record UploadState : Type 0 where
  pub goal : Goal
  pub happy : ℕ
  pub servers : List ℕ
  pub requests : RequestsState
  pub round : ℕ
  pub status : UploadStatus

-- the value of an upload with these fields
abbrev pub upload_state : Goal → ℕ → List ℕ → RequestsState → ℕ → UploadStatus → UploadState
upload_state goal happy servers requests round status = record {
  goal = goal;
  happy = happy;
  servers = servers;
  requests = requests;
  round = round;
  status = status;
}

-- the same upload with another record
abbrev pub with_record : UploadState → RequestsState → UploadState
with_record u r = record u { requests = r }
