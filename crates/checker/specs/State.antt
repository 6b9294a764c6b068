-- A check: of what it is, its servers, whether it keeps the bytes of shares, its record, and where
-- it stands.
use Rattle.std.specs.Prelude.{ℕ, Bool, List}
use Rattle.cap_text.specs.Cap.{VerifyCapValue}
use Rattle.request_record.specs.Record.{RequestsState}
use Rattle.checker.specs.declared.status.CheckStatus.{CheckStatus}

pub record CheckState : Type 0 where
  pub cap : VerifyCapValue
  pub servers : List ℕ
  pub keeps : Bool
  pub requests : RequestsState
  pub status : CheckStatus

-- the same check with another record
abbrev pub with_record : CheckState → RequestsState → CheckState
with_record c r = record c { requests = r }
