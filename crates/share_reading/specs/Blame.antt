-- A share that is given up at its beginning fails the check that its fault is of.
use Rattle.std.specs.Prelude.{◌≡◌, ℕ, List, length, take, drop, Contains}
use Rattle.cap_text.specs.Cap.{VerifyCapValue}
use Rattle.share_verify.specs.Checks.{Passes}
use Rattle.share_reading.specs.Opening.{next_length, next_offset}
use Rattle.share_reading.specs.OpeningReads.{Brought, IsLedToBy}
use Rattle.share_reading.specs.Refusal.{IsStageRefusal, check_of}
use Rattle.share_reading.specs.declared.error.OpeningError.{OpeningError}
use Rattle.share_reading.specs.declared.opening.Opening.{Opening}

-- the share has these bytes from this offset on
abbrev pub HasAt : List ℕ → ℕ → List ℕ → Type 0
HasAt share offset bytes = bytes ≡ take (length bytes) (drop offset share)

-- it has what these reads brought
abbrev pub HasReads : List Brought → List ℕ → Type 0
HasReads reads share =
    (read : Brought) → Contains reads read → HasAt share read.0 read.1

-- a law: no share that has what was read passes the check of the refusal
abbrev pub RefusedSharesFail : Type 0
RefusedSharesFail = (cap : VerifyCapValue) (num : ℕ) (reads : List Brought) (old : Opening)
    (share bytes : List ℕ) (error : OpeningError)
    → IsLedToBy reads old → HasReads reads share
    → HasAt share (next_offset old) bytes → length bytes ≡ next_length old
    → IsStageRefusal cap old bytes error → ¬ Passes cap num share (check_of error)
