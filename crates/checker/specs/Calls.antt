-- A check as an operation.
use Rattle.std.specs.Prelude.{◌≡◌, ◌≢◌, Bool, true, false}
use Rattle.request_record.specs.Operations.{OperationCalls}
use Rattle.checker.specs.Moves.{Advances, TicksOn}
use Rattle.checker.specs.Sending.{Takes}
use Rattle.checker.specs.State.{CheckState}
use Rattle.checker.specs.declared.status.CheckStatus.{CheckStatus}
use Rattle.checker.specs.declared.status.CheckStatus.TheVariants.{Running, Done, Failed}

-- A check is carried on while it runs.
abbrev pub is_to_carry : CheckStatus → Bool
is_to_carry Running = true
is_to_carry Done = false
is_to_carry Failed = false

-- What a call does without memory: a check that runs fails, and one that ended is as it was.
pub record GivesUp (old new : CheckState) : Type 0 where
  pub running : old.status ≡ Running → new.status ≡ Failed
  pub ended : old.status ≢ Running → new ≡ old

-- what the calls of a check do
abbrev pub check_calls : OperationCalls CheckState
check_calls = record {
  requests = λ c. c.requests;
  runs = λ c. is_to_carry c.status;
  takes = Takes;
  hears = λ old from m now new. Advances from m now old new;
  ticks = λ old now new. TicksOn now old new;
  gives_up = GivesUp;
}
