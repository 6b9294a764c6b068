-- Which lines of a catalogue a put keeps that goes on from it.
use Rattle.std.specs.Prelude.{◌≡◌, ◌⊎◌, ◌+◌, ◌<◌, ◌≤◌, ℕ, Option, None, Some, length}
use Rattle.cap_text.specs.declared.cap.Cap.{Cap}
use Rattle.cap_text.specs.declared.cap.Cap.TheVariants.{Chk, Lit, Verify}
use Rattle.catalogues.specs.declared.head.Head.{Head}
use Rattle.catalogues.specs.declared.head.Moment.{Moment}
use Rattle.catalogues.specs.declared.kept.FileState.{FileState}

-- By how many seconds a time has to lie before another, if it is to be the earlier one for sure:
-- some file systems keep times in steps of two seconds.
abbrev pub margin : ℕ
margin = 2

-- a moment lies before another by more than this
abbrev pub IsLongBefore : Moment → Moment → Type 0
IsLongBefore a b = (a.seconds + margin < b.seconds)
    ⊎ ((a.seconds + margin ≡ b.seconds) × (a.nanoseconds < b.nanoseconds))

-- a moment does not lie behind another
abbrev pub IsNotBehind : Moment → Moment → Type 0
IsNotBehind a b = (a.seconds < b.seconds)
    ⊎ ((a.seconds ≡ b.seconds) × (a.nanoseconds ≤ b.nanoseconds))

-- the size of the file that a cap reads; a verify cap reads none
abbrev pub size_read : Cap → Option ℕ
size_read (Chk cap) = Some cap.size
size_read (Lit file) = Some (length file)
size_read (Verify cap) = None

-- Lines of a catalogue may stand in another: equal files have equal caps in both, and by the clock
-- the other was not begun before it.
pub record MayKeep (old new : Head) : Type 0 where
  pub numbers : old.numbers ≡ new.numbers
  pub fingerprint : old.fingerprint ≡ new.fingerprint
  pub clock : IsNotBehind old.begun new.begun

-- The line of a cap is kept for a file that has this size and these times: it has not changed since
-- the catalogue was begun. A file system that keeps no times of change tells 1970 for them.
pub record IsKept (old new : Head) (cap : Cap) (file : FileState) : Type 0 where
  pub heads : MayKeep old new
  pub size : size_read cap ≡ Some file.size
  pub times : 0 < file.changed.seconds
  pub changed : IsLongBefore file.changed old.begun
  pub modified : IsLongBefore file.modified old.begun
