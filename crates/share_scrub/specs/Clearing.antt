-- What clearing the way comes to, and what it tells.
use Rattle.std.specs.Prelude.{◌≡◌, ℕ, ◌+◌, ◌-◌, ◌^◌, ◌⊎◌, min, map, List, [], ◌∷◌, ◌++◌}
use Rattle.std.specs.Prelude.{Some}
use Rattle.std.specs.List.{Contains, AllByRecursion}
use Rattle.share_files.specs.declared.acts.Act.{Act}
use Rattle.share_files.specs.declared.fate.Wanted.{Wanted}
use Rattle.share_scrub.specs.declared.mending.Cleared.{Cleared}
use Rattle.share_scrub.specs.declared.mending.LeftShare.{LeftShare}
use Rattle.share_scrub.specs.declared.mending.Outcome.{Outcome}
use Rattle.share_scrub.specs.declared.mending.Outcome.TheVariants.{Kept, WasSetAside, WasRemoved}
use Rattle.share_scrub.specs.declared.mending.Outcome.TheVariants.{WasLeft, WasOdd}
use Rattle.share_files.specs.declared.name.FileKind.{FileKind}
use Rattle.share_files.specs.declared.name.FileKind.TheVariants.{Closed}
use Rattle.share_files.specs.declared.name.ShareFile.{ShareFile}
use Rattle.share_files.specs.Acts.{AreAllowed, IsAway, IsRight, asides, last_listed, removals}

-- one more, up to the most that are counted
abbrev pub one_more : ℕ → ℕ
one_more n = min (n + 1) (2 ^ 64 - 1)

-- what the outcome of a file adds
abbrev pub asides_after : Outcome → ℕ → ℕ
asides_after WasSetAside n = one_more n
asides_after Kept n = n
asides_after WasRemoved n = n
asides_after (WasLeft _) n = n
asides_after WasOdd n = n

abbrev pub removed_after : Outcome → ℕ → ℕ
removed_after WasRemoved n = one_more n
removed_after Kept n = n
removed_after WasSetAside n = n
removed_after (WasLeft _) n = n
removed_after WasOdd n = n

abbrev pub left_by : ℕ → Outcome → List LeftShare
left_by share (WasLeft reason) = record { share = share; reason = reason } ∷ []
left_by share Kept = []
left_by share WasSetAside = []
left_by share WasRemoved = []
left_by share WasOdd = []

abbrev pub odd_by : ℕ → Outcome → List ℕ
odd_by share WasOdd = share ∷ []
odd_by share Kept = []
odd_by share WasSetAside = []
odd_by share WasRemoved = []
odd_by share (WasLeft _) = []

-- the file of a share is counted by what became of it
pub record Counts (share : ℕ) (outcome : Outcome) (s t : Cleared) : Type 0 where
  pub set_aside : t.set_aside ≡ asides_after outcome s.set_aside
  pub open_removed : t.open_removed ≡ removed_after outcome s.open_removed
  pub left : t.left.items ≡ s.left.items ++ left_by share outcome
  pub odd : t.odd.items ≡ s.odd.items ++ odd_by share outcome

-- ---- what was done by then

-- it is in nobody's way: it is away, or right
abbrev pub IsInNoWay : Wanted → ShareFile → List ℕ → List Act → Type 0
IsInNoWay wanted file digest acts = IsAway file acts ⊎ IsRight (Some wanted) file digest acts

-- or else its number is told
abbrev pub IsTold : ℕ → Cleared → Type 0
IsTold share cleared =
    Contains (map (λ l. l.share) cleared.left.items) share ⊎ Contains cleared.odd.items share

abbrev pub IsClearedOf : Wanted → Cleared → List Act → ShareFile → FileKind → Type 0
IsClearedOf wanted cleared acts file (Closed digest) =
    IsInNoWay wanted file digest acts ⊎ IsTold file.key.1 cleared
IsClearedOf wanted cleared acts file _ = Unit

-- how many are counted, up to the most
abbrev pub counted : ℕ → ℕ
counted n = min n (2 ^ 64 - 1)

-- The way was cleared by acts that are allowed. Each closed share's file of the last listing is in
-- nobody's way, or told; and it is told how many files were set aside, and how many open ones were
-- removed.
pub record IsCleared (wanted : Wanted) (cleared : Cleared) (acts : List Act) : Type 0 where
  pub allowed : AreAllowed (Some wanted) acts
  pub files : List ShareFile
  pub listed : last_listed acts ≡ Some files
  pub each : AllByRecursion (λ f. IsClearedOf wanted cleared acts f f.kind) files
  pub set_aside : cleared.set_aside ≡ counted (asides acts)
  pub open_removed : cleared.open_removed ≡ counted (removals acts)
