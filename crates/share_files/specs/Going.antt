-- How far a call goes.
use Rattle.std.specs.Prelude.{◌≡◌, ℕ, ◌+◌, List, Option, Result, Ok, Err}
use Rattle.share_files.specs.declared.acts.Act.{Act}
use Rattle.share_files.specs.declared.acts.Act.TheVariants.{Judged}
use Rattle.share_files.specs.declared.aside.Went.{Went}
use Rattle.share_files.specs.declared.aside.Went.TheVariants.{Back, Aside}
use Rattle.share_files.specs.declared.bytes.Verdict.TheVariants.{Whole}
use Rattle.share_files.specs.declared.fate.Fate.{Fate}
use Rattle.share_files.specs.declared.fate.Fate.TheVariants.{Keep, Read, SetAside, Odd}
use Rattle.share_files.specs.declared.fate.Wanted.{Wanted}
use Rattle.share_files.specs.declared.name.ShareFile.{ShareFile}
use Rattle.share_files.specs.Acts.{AreAllowed, IsNone, IsNoneThere, IsRight, Was, asides}
use Rattle.share_files.specs.Acts.{last_listed, removals}

-- Acts that are allowed and list nothing, by which so many files were set aside, and so many open
-- ones removed.
pub record Goes (wanted : Option Wanted) (aside removed : ℕ) (old new : List Act) : Type 0 where
  pub allowed : AreAllowed wanted old → AreAllowed wanted new
  pub kept : (act : Act) → Was act old → Was act new
  pub asides : asides new ≡ asides old + aside
  pub removals : removals new ≡ removals old + removed
  pub listed : last_listed new ≡ last_listed old

abbrev pub aside_by : Went → ℕ
aside_by Aside = 1
aside_by Back = 0

-- the file of one that went, or did not
abbrev pub GoesAs : {E : Type 0} → Option Wanted → List Act → List Act → Result Went E → Type 0
GoesAs wanted old new (Ok went) = Goes wanted (aside_by went) 0 old new
GoesAs wanted old new (Err error) = Goes wanted 0 0 old new

-- what says that a file with its closed name has this fate
abbrev pub IsClosedFate : Option Wanted → ShareFile → List ℕ → List Act → Fate → Type 0
IsClosedFate wanted file digest acts SetAside = IsNone wanted file digest acts
IsClosedFate wanted file digest acts Keep = IsRight wanted file digest acts
IsClosedFate wanted file digest acts Read = ⊥
IsClosedFate wanted file digest acts Odd = Unit

-- and one that is on its way
abbrev pub IsHalfFate : Option Wanted → ShareFile → List ℕ → List Act → Fate → Type 0
IsHalfFate wanted file digest acts SetAside = IsNoneThere wanted file digest acts
IsHalfFate wanted file digest acts Keep = Was (Judged file digest Whole) acts
IsHalfFate wanted file digest acts Read = Unit
IsHalfFate wanted file digest acts Odd = Unit
