-- What a report tells of shares that servers told as they are.
use Rattle.std.specs.Prelude.{◌≡◌, ℕ, List, Contains}
use Rattle.cap_text.specs.Cap.{VerifyCapValue}
use Rattle.request_record.specs.declared.requests.Request.{Request}
use Rattle.share_verify.specs.Verify.{IsSoundShare}
use Rattle.share_verify.specs.declared.check.Check.{Check}
use Rattle.share_reading.specs.Verdict.{IsLost}
use Rattle.share_reading.specs.declared.verdict.Verdict.TheVariants.{Good, Corrupt}
use Rattle.checker.specs.Report.{IsReport}
use Rattle.checker.specs.Shares.{settled_of}
use Rattle.checker.specs.declared.status.Report.{Report}
use Rattle.checker.specs.declared.status.ShareVerdict.{ShareVerdict}
use Rattle.answer_laws.specs.Downloads.Answers.{AnsweredOther, AnswersOwn}

-- What is told of a share that passes: it is good where its server answered with its own bytes
-- alone and no read of it was lost. It is corrupt only where an answer had other bytes.
pub record IsToldFairly (entries : List Request) (v : ShareVerdict) (share : List ℕ)
    : Type 0 where
  pub good : AnswersOwn entries v.server v.share share
      → ¬ IsLost (settled_of entries v.server v.share) → v.verdict ≡ Good
  pub corrupt : (check : Check) → v.verdict ≡ Corrupt check
      → AnsweredOther entries v.server v.share share

-- a law: so it is of each verdict of a report, of which there is one on each share offered
abbrev pub OwnAnswersAreGood : Type 0
OwnAnswersAreGood = (cap : VerifyCapValue) (entries : List Request) (r : Report)
    (v : ShareVerdict) (share : List ℕ) → IsReport cap entries r → Contains r.verdicts v
    → IsSoundShare cap v.share share → IsToldFairly entries v share
