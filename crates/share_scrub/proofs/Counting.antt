-- What was counted and told, file after file.
use Rattle.std.proofs.Common.{◌≡◌, ◌∙◌, sym, ap, subst, ℕ, ◌+◌, inl, inr, List, [], ◌∷◌, ◌++◌, Option, Some, map, take, length, get_or, ◌<◌, suc, arith}
use Rattle.std.specs.List.{AllByRecursion, Contains}
use Rattle.std.specs.Prelude.{IsErrAnd, Result, Ok, Err}
use Rattle.std.proofs.Math.Seq.{take-suc}
use Rattle.std.proofs.lemmas.List.{map-append}
use Rattle.std.proofs.lemmas.List.Elements.{Contains-append_left, Contains-push}
use Rattle.share_files.specs.declared.acts.Act.{Act}
use Rattle.share_files.specs.declared.acts.Act.TheVariants.{Listed, Unlisted}
use Rattle.share_files.specs.declared.fate.Wanted.{Wanted}
use Rattle.share_scrub.specs.declared.mending.Cleared.{Cleared}
use Rattle.share_scrub.specs.declared.mending.LeftShare.{LeftShare}
use Rattle.share_scrub.specs.declared.mending.Outcome.{Outcome}
use Rattle.share_scrub.specs.declared.mending.Outcome.TheVariants.{Kept, WasSetAside, WasRemoved, WasLeft, WasOdd}
use Rattle.share_files.specs.declared.name.FileKind.{FileKind}
use Rattle.share_files.specs.declared.name.FileKind.TheVariants.{Closed, Open, HalfAside, Aside}
use Rattle.share_files.specs.declared.name.ShareFile.{ShareFile}
use Rattle.share_files.specs.Acts.{IsListing, IsRight, Lists, Was, asides, last_listed, removals}
use Rattle.share_scrub.specs.Clearing.{Counts, IsClearedOf, IsInNoWay, IsTold, asides_after, counted, removed_after}
use Rattle.share_files.specs.Going.{Goes}
use Rattle.share_scrub.specs.Counted.{Counted, GoesCounting, IsCountedSo, IsToldBy, outcome_aside, outcome_removed}
use Rattle.share_files.proofs.Going.{away_still, both, found_still, still}

-- ---- what was counted

one_aside : (outcome : Outcome) (n : ℕ) → asides_after outcome (counted n) ≡ counted (n + outcome_aside outcome)
one_aside Kept n = omega arith
one_aside WasSetAside n = omega arith
one_aside WasRemoved n = omega arith
one_aside (WasLeft _) n = omega arith
one_aside WasOdd n = omega arith

one_removal : (outcome : Outcome) (n : ℕ) → removed_after outcome (counted n) ≡ counted (n + outcome_removed outcome)
one_removal Kept n = omega arith
one_removal WasSetAside n = omega arith
one_removal WasRemoved n = omega arith
one_removal (WasLeft _) n = omega arith
one_removal WasOdd n = omega arith

pub none_yet : (wanted : Wanted) (s : Cleared) (acts : List Act) → GoesCounting wanted s s acts acts
none_yet wanted s acts = record {
  aside = 0;
  removed = 0;
  goes = still (Some wanted) acts;
  set_aside = λ e. e;
  open_removed = λ e. e;
}

-- one file more
pub one_more_file : (wanted : Wanted) (share : ℕ) (outcome : Outcome) (s t u : Cleared) (old mid new : List Act) → GoesCounting wanted s t old mid
    → Goes (Some wanted) (outcome_aside outcome) (outcome_removed outcome) mid new → Counts share outcome t u → GoesCounting wanted s u old new
one_more_file wanted share outcome s t u old mid new before goes counts = record {
  aside = before.aside + outcome_aside outcome;
  removed = before.removed + outcome_removed outcome;
  goes = both (Some wanted) before.aside before.removed (outcome_aside outcome) (outcome_removed outcome) old mid new before.goes goes;
  set_aside = λ e. counts.set_aside ∙ ap (asides_after outcome) (before.set_aside e) ∙ one_aside outcome (asides mid) ∙ ap counted (sym goes.asides);
  open_removed = λ e. counts.open_removed ∙ ap (removed_after outcome) (before.open_removed e) ∙ one_removal outcome (removals mid) ∙ ap counted (sym goes.removals);
}

-- one file more that could not be counted, or whose call failed
pub no_more : (wanted : Wanted) (s t : Cleared) (old mid new : List Act) → GoesCounting wanted s t old mid → Goes (Some wanted) 0 0 mid new → GoesCounting wanted s t old new
no_more wanted s t old mid new before goes = record {
  aside = before.aside + 0;
  removed = before.removed + 0;
  goes = both (Some wanted) before.aside before.removed 0 0 old mid new before.goes goes;
  set_aside = λ e. before.set_aside e ∙ ap counted (omega (arith, goes.asides));
  open_removed = λ e. before.open_removed e ∙ ap counted (omega (arith, goes.removals));
}

-- ---- what is told

right_still : (wanted : Option Wanted) (file : ShareFile) (digest : List ℕ) (s t : List Act) → ((act : Act) → Was act s → Was act t) → IsRight wanted file digest s → IsRight wanted file digest t
right_still wanted file digest s t kept (inl w) = inl (found_still wanted file digest _ s t kept w)
right_still wanted file digest s t kept (inr w) = inr (found_still wanted file digest _ s t kept w.0, kept _ w.1)

way_still : (wanted : Wanted) (file : ShareFile) (digest : List ℕ) (s t : List Act) → ((act : Act) → Was act s → Was act t) → IsInNoWay wanted file digest s → IsInNoWay wanted file digest t
way_still wanted file digest s t kept (inl away) = inl (away_still file s t kept away)
way_still wanted file digest s t kept (inr right) = inr (right_still (Some wanted) file digest s t kept right)

left_still : (xs ys more : List LeftShare) (share : ℕ) → ys ≡ xs ++ more → Contains (map (λ l. l.share) xs) share → Contains (map (λ l. l.share) ys) share
left_still xs ys more share is has =
    subst (λ (zs : List ℕ). Contains zs share) (sym (ap (map (λ l. l.share)) is ∙ map-append (λ l. l.share) xs more)) (Contains-append_left (map (λ l. l.share) xs) (map (λ l. l.share) more) share has)

odd_still : (xs ys more : List ℕ) (share : ℕ) → ys ≡ xs ++ more → Contains xs share → Contains ys share
odd_still xs ys more share is has = subst (λ (zs : List ℕ). Contains zs share) (sym is) (Contains-append_left xs more share has)

told_still : (share other : ℕ) (outcome : Outcome) (s t : Cleared) → Counts other outcome s t → IsTold share s → IsTold share t
told_still share other outcome s t counts (inl has) = inl (left_still _ _ _ share counts.left has)
told_still share other outcome s t counts (inr has) = inr (odd_still _ _ _ share counts.odd has)

-- what was cleared stays so
pub cleared_still : (wanted : Wanted) (other : ℕ) (outcome : Outcome) (s t : Cleared) (old new : List Act) (file : ShareFile) (kind : FileKind) → ((act : Act) → Was act old → Was act new)
    → Counts other outcome s t → IsClearedOf wanted s old file kind → IsClearedOf wanted t new file kind
cleared_still wanted other outcome s t old new file (Closed digest) kept counts (inl way) = inl (way_still wanted file digest old new kept way)
cleared_still wanted other outcome s t old new file (Closed digest) kept counts (inr told) = inr (told_still _ other outcome s t counts told)
cleared_still wanted other outcome s t old new file (Open own) kept counts c = tt
cleared_still wanted other outcome s t old new file (HalfAside digest own) kept counts c = tt
cleared_still wanted other outcome s t old new file (Aside digest number) kept counts c = tt

-- what its outcome tells of a file that is counted by it
pub cleared_now : (wanted : Wanted) (outcome : Outcome) (s t : Cleared) (acts : List Act) (file : ShareFile) (kind : FileKind) → Counts file.key.1 outcome s t
    → IsToldBy wanted file acts outcome kind → IsClearedOf wanted t acts file kind
cleared_now wanted Kept s t acts file (Closed digest) counts told = inl told
cleared_now wanted WasSetAside s t acts file (Closed digest) counts told = inl told
cleared_now wanted WasRemoved s t acts file (Closed digest) counts told = inl told
cleared_now wanted (WasLeft reason) s t acts file (Closed digest) counts told =
    inr (inl (subst (λ (zs : List ℕ). Contains zs file.key.1) (sym (ap (map (λ l. l.share)) counts.left ∙ map-append (λ l. l.share) s.left.items _)) (Contains-push (map (λ l. l.share) s.left.items) file.key.1)))
cleared_now wanted WasOdd s t acts file (Closed digest) counts told =
    inr (inr (subst (λ (zs : List ℕ). Contains zs file.key.1) (sym counts.odd) (Contains-push s.odd.items file.key.1)))
cleared_now wanted outcome s t acts file (Open own) counts told = tt
cleared_now wanted outcome s t acts file (HalfAside digest own) counts told = tt
cleared_now wanted outcome s t acts file (Aside digest number) counts told = tt

-- ---- all of a list

pub all_still : {X : Type 0} (P Q : X → Type 0) (xs : List X) → ((x : X) → P x → Q x) → AllByRecursion P xs → AllByRecursion Q xs
all_still P Q [] weaker all = tt
all_still P Q (x ∷ xs) weaker all = (weaker x all.0, all_still P Q xs weaker all.1)

pub all_push : {X : Type 0} (P : X → Type 0) (xs : List X) (x : X) → AllByRecursion P xs → P x → AllByRecursion P (xs ++ x ∷ [])
all_push P [] x all last = (last, tt)
all_push P (y ∷ ys) x all last = (all.0, all_push P ys x all.1 last)

-- ---- from the beginning

pub nothing_yet : (wanted : Wanted) (s : Cleared) (acts : List Act) → s.set_aside ≡ 0 → s.open_removed ≡ 0 → acts ≡ [] → IsCountedSo wanted s acts
nothing_yet wanted s acts aside removed is = subst (IsCountedSo wanted s) (sym is) (record { allowed = tt; set_aside = aside; open_removed = removed })

pub counted_so : (wanted : Wanted) (s t : Cleared) (old new : List Act) → GoesCounting wanted s t old new → IsCountedSo wanted s old → IsCountedSo wanted t new
counted_so wanted s t old new goes so = record { allowed = goes.goes.allowed so.allowed; set_aside = goes.set_aside so.set_aside; open_removed = goes.open_removed so.open_removed }

by_listing : (act : Act) (files : List ShareFile) → IsListing act files → (wanted : Wanted) (s : Cleared) (acts : List Act) → IsCountedSo wanted s acts → IsCountedSo wanted s (act ∷ acts)
by_listing (Listed listed) files is wanted s acts so = record { allowed = (tt, so.allowed); set_aside = so.set_aside; open_removed = so.open_removed }
by_listing act files is wanted s acts so = absurd is

pub listed_so : (wanted : Wanted) (s : Cleared) (files : List ShareFile) (old new : List Act) → Lists files old new → IsCountedSo wanted s old → IsCountedSo wanted s new
listed_so wanted s files old new lists so = subst (IsCountedSo wanted s) (sym lists.2) (by_listing lists.0 files lists.1 wanted s old so)

pub unlisted_so : (wanted : Wanted) (s : Cleared) (old new : List Act) → new ≡ Unlisted ∷ old → IsCountedSo wanted s old → IsCountedSo wanted s new
unlisted_so wanted s old new is so = subst (IsCountedSo wanted s) (sym is) (record { allowed = (tt, so.allowed); set_aside = so.set_aside; open_removed = so.open_removed })

last_by : (act : Act) (files : List ShareFile) → IsListing act files → (acts : List Act) → last_listed (act ∷ acts) ≡ Some files
last_by (Listed listed) files is acts = ap Some is
last_by act files is acts = absurd is

pub lists_last : (files : List ShareFile) (old new : List Act) → Lists files old new → last_listed new ≡ Some files
lists_last files old new lists = ap last_listed lists.2 ∙ last_by lists.0 files lists.1 old

pub all_taken : {X : Type 0} (P : X → Type 0) (xs : List X) (i : ℕ) (d : X) → i < length xs → AllByRecursion P (take i xs) → P (get_or xs i d) → AllByRecursion P (take (i + 1) xs)
all_taken P xs i d within all last =
    let one_more : i + 1 ≡ suc i = omega arith in
    subst (AllByRecursion P) (sym (ap (λ (n : ℕ). take n xs) one_more ∙ take-suc xs i d within)) (all_push P (take i xs) (get_or xs i d) all last)

-- what a call that failed comes to
pub err_counted : {E : Type 0} (wanted : Option Wanted) (s t : List Act) (P : E → Type 0) (r : Result Outcome E) → IsErrAnd r P → Goes wanted 0 0 s t → Counted wanted s t r
err_counted wanted s t P (Ok outcome) is goes = absurd is
err_counted wanted s t P (Err e) is goes = goes
