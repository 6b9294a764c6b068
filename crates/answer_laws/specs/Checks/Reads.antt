-- Reads that brought a share's own bytes.
use Rattle.std.specs.Prelude.{◌≡◌, ◌⊎◌, ℕ, List, Some, take, drop, Contains}
use Rattle.cap_text.specs.Cap.{VerifyCapValue}
use Rattle.share_verify.specs.Verify.{IsSoundShare}
use Rattle.share_reading.specs.Verdict.{IsLost, IsVerdict, Settled}
use Rattle.share_reading.specs.declared.verdict.Verdict.{Verdict}
use Rattle.share_reading.specs.declared.verdict.Verdict.TheVariants.{Good, Lost}

-- each read that brought bytes brought those that the share has there: as many as were asked, and
-- fewer at its end
abbrev pub BringOwn : List Settled → List ℕ → Type 0
BringOwn reads share = (read : Settled) (bytes : List ℕ) → Contains reads read
    → read.answer ≡ Some bytes → bytes ≡ take read.len (drop read.offset share)

-- a law: the verdict on a share that passes is good where its own bytes came, or lost where a read
-- was lost, and never corrupt
abbrev pub OwnReadsAreGood : Type 0
OwnReadsAreGood = (cap : VerifyCapValue) (num : ℕ) (share : List ℕ) (reads : List Settled)
    (v : Verdict) → IsSoundShare cap num share → BringOwn reads share
    → IsVerdict cap num reads v → (v ≡ Good) ⊎ ((v ≡ Lost) × IsLost reads)
