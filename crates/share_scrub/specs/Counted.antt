-- What is counted and told of the files that a call came to.
use Rattle.std.specs.Prelude.{◌≡◌, ℕ, List, Option, Some, Result, Ok, Err}
use Rattle.share_files.specs.declared.acts.Act.{Act}
use Rattle.share_files.specs.declared.fate.Wanted.{Wanted}
use Rattle.share_files.specs.declared.name.FileKind.{FileKind}
use Rattle.share_files.specs.declared.name.FileKind.TheVariants.{Closed}
use Rattle.share_files.specs.declared.name.ShareFile.{ShareFile}
use Rattle.share_files.specs.Acts.{AreAllowed, asides, removals}
use Rattle.share_files.specs.Going.{Goes}
use Rattle.share_scrub.specs.declared.mending.Cleared.{Cleared}
use Rattle.share_scrub.specs.declared.mending.Outcome.{Outcome}
use Rattle.share_scrub.specs.declared.mending.Outcome.TheVariants.{Kept, WasSetAside, WasRemoved}
use Rattle.share_scrub.specs.declared.mending.Outcome.TheVariants.{WasLeft, WasOdd}
use Rattle.share_scrub.specs.Clearing.{IsInNoWay, counted}

-- what the outcome of a file is counted by
abbrev pub outcome_aside : Outcome → ℕ
outcome_aside WasSetAside = 1
outcome_aside Kept = 0
outcome_aside WasRemoved = 0
outcome_aside (WasLeft _) = 0
outcome_aside WasOdd = 0

abbrev pub outcome_removed : Outcome → ℕ
outcome_removed WasRemoved = 1
outcome_removed Kept = 0
outcome_removed WasSetAside = 0
outcome_removed (WasLeft _) = 0
outcome_removed WasOdd = 0

abbrev pub Counted : {E : Type 0} → Option Wanted → List Act → List Act → Result Outcome E → Type 0
Counted wanted old new (Ok outcome) =
    Goes wanted (outcome_aside outcome) (outcome_removed outcome) old new
Counted wanted old new (Err error) = Goes wanted 0 0 old new

-- what the outcome of a closed share's file tells: it is in nobody's way, or its number is told
abbrev pub IsToldBy : Wanted → ShareFile → List Act → Outcome → FileKind → Type 0
IsToldBy wanted file acts (WasLeft _) (Closed digest) = Unit
IsToldBy wanted file acts WasOdd (Closed digest) = Unit
IsToldBy wanted file acts _ (Closed digest) = IsInNoWay wanted file digest acts
IsToldBy wanted file acts _ _ = Unit

-- acts that are counted
pub record GoesCounting (wanted : Wanted) (s t : Cleared) (old new : List Act) : Type 0 where
  pub aside : ℕ
  pub removed : ℕ
  pub goes : Goes (Some wanted) aside removed old new
  pub set_aside : s.set_aside ≡ counted (asides old) → t.set_aside ≡ counted (asides new)
  pub open_removed : s.open_removed ≡ counted (removals old)
      → t.open_removed ≡ counted (removals new)

-- what was counted is what was done, and that was allowed
pub record IsCountedSo (wanted : Wanted) (cleared : Cleared) (acts : List Act) : Type 0 where
  pub allowed : AreAllowed (Some wanted) acts
  pub set_aside : cleared.set_aside ≡ counted (asides acts)
  pub open_removed : cleared.open_removed ≡ counted (removals acts)
