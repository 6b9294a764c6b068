-- A check calls a share good that its server tells.
use Rattle.std.specs.Prelude.{◌≡◌, ◌⊎◌, ℕ, ◌<◌, List, Contains}
use Rattle.placement.specs.Matching.{Pair}
use Rattle.share_verify.specs.Verify.{IsSoundShare}
use Rattle.share_reading.specs.declared.verdict.Verdict.TheVariants.{Good}
use Rattle.checker.specs.Report.{IsReport}
use Rattle.checker.specs.Right.{IsRight}
use Rattle.checker.specs.State.{CheckState}
use Rattle.checker.specs.declared.status.CheckStatus.TheVariants.{Done}
use Rattle.checker.specs.declared.status.Report.{Report}
use Rattle.checker.specs.declared.status.ShareVerdict.{ShareVerdict}
use Rattle.answer_laws.specs.Asking.Checks.{CheckAsksAll}
use Rattle.answer_laws.specs.Enough.Answers.{TellsShare, WasLost}

-- A check that is done asked these servers what they hold, and one of them tells a share, which
-- passes for the check's cap.
pub record IsTold (c : CheckState) (servers : List ℕ) (pair : Pair) (share : List ℕ)
    : Type 0 where
  pub right : IsRight c
  pub done : c.status ≡ Done
  pub asks : CheckAsksAll servers c
  pub of : Contains servers pair.0
  pub low : pair.1 < c.cap.total
  pub sound : IsSoundShare c.cap pair.1 share
  pub tells : TellsShare c.requests.entries pair.0 pair.1 share

abbrev pub good : Pair → ShareVerdict
good pair = record { server = pair.0; share = pair.1; verdict = Good }

-- a law: its report calls that share good, or one of the requests to the server was lost
abbrev pub ToldSharesAreGood : Type 0
ToldSharesAreGood = (c : CheckState) (r : Report) (servers : List ℕ) (pair : Pair)
    (share : List ℕ) → IsReport c.cap c.requests.entries r → IsTold c servers pair share
    → Contains r.verdicts (good pair) ⊎ WasLost c.requests.entries pair.0
