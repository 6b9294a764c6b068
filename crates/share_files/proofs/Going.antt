-- How far calls go, one after the other.
use Rattle.std.proofs.Common.{◌≡◌, ◌∙◌, sym, ap, refl, subst, ℕ, ◌+◌, inl, inr, List, ◌∷◌, Option, Some, None, arith}
use Rattle.std.specs.Prelude.{IfErr, IfOk, IsErrAnd, Result, Ok, Err}
use Rattle.share_folders.specs.declared.names.ClosedName.{ClosedName}
use Rattle.std.specs.declared.io.ErrorKind.{ErrorKind}
use Rattle.std.specs.declared.io.ErrorKind.TheVariants.{NotFound}
use Rattle.share_files.specs.declared.acts.Act.{Act}
use Rattle.share_files.specs.declared.acts.Act.TheVariants.{Found, Gone, Failed, Judged, Made, Moved, Removed}
use Rattle.share_files.specs.declared.acts.Standing.{Standing}
use Rattle.share_files.specs.declared.aside.Went.{Went}
use Rattle.share_files.specs.declared.bytes.Verdict.{Verdict}
use Rattle.share_files.specs.declared.fate.Fate.{Fate}
use Rattle.share_files.specs.declared.fate.Wanted.{Wanted}
use Rattle.share_files.specs.declared.name.ShareFile.{ShareFile}
use Rattle.share_files.specs.Acts.{IsAway, IsNone, IsNoneThere, IsOf, MayBe, Was, WasFound, WasMadeInVain, asides, last_listed, removals}
use Rattle.share_files.specs.Name.{aside_file, closed_file, half_file}
use Rattle.share_files.specs.Failures.{failure_of}
use Rattle.share_files.specs.Going.{Goes, GoesAs, aside_by}

-- nothing was done
pub still : (wanted : Option Wanted) (acts : List Act) → Goes wanted 0 0 acts acts
still wanted acts = record {
  allowed = λ a. a;
  kept = λ act was. was;
  asides = omega arith;
  removals = omega arith;
  listed = refl;
}

-- one act
pub one : (wanted : Option Wanted) (a r : ℕ) (act : Act) (acts : List Act) → MayBe wanted act acts → asides (act ∷ acts) ≡ asides acts + a → removals (act ∷ acts) ≡ removals acts + r
    → last_listed (act ∷ acts) ≡ last_listed acts → Goes wanted a r acts (act ∷ acts)
one wanted a r act acts may counted removed listed = record {
  allowed = λ allowed. (may, allowed);
  kept = λ other was. inr was;
  asides = counted;
  removals = removed;
  listed = listed;
}

-- one act, and another call before or after that changes no name
pub before : (wanted : Option Wanted) (a r : ℕ) (s t u : List Act) → Goes wanted 0 0 s t → Goes wanted a r t u → Goes wanted a r s u
before wanted a r s t u first more = record {
  allowed = λ allowed. more.allowed (first.allowed allowed);
  kept = λ act was. more.kept act (first.kept act was);
  asides = omega (arith, first.asides, more.asides);
  removals = omega (arith, first.removals, more.removals);
  listed = more.listed ∙ first.listed;
}

pub both : (wanted : Option Wanted) (a r b q : ℕ) (s t u : List Act) → Goes wanted a r s t → Goes wanted b q t u → Goes wanted (a + b) (r + q) s u
both wanted a r b q s t u first next = record {
  allowed = λ allowed. next.allowed (first.allowed allowed);
  kept = λ act was. next.kept act (first.kept act was);
  asides = omega (arith, first.asides, next.asides);
  removals = omega (arith, first.removals, next.removals);
  listed = next.listed ∙ first.listed;
}

pub after : (wanted : Option Wanted) (a r : ℕ) (s t u : List Act) → Goes wanted a r s t → Goes wanted 0 0 t u → Goes wanted a r s u
after wanted a r s t u first more = record {
  allowed = λ allowed. more.allowed (first.allowed allowed);
  kept = λ act was. more.kept act (first.kept act was);
  asides = omega (arith, first.asides, more.asides);
  removals = omega (arith, first.removals, more.removals);
  listed = more.listed ∙ first.listed;
}

pub found : (wanted : Option Wanted) (file : ShareFile) (standing : Standing) (acts new : List Act) → new ≡ Found file standing ∷ acts → Goes wanted 0 0 acts new
found wanted file standing acts new is =
    subst (Goes wanted 0 0 acts) (sym is) (one wanted 0 0 (Found file standing) acts tt (omega arith) (omega arith) refl)

pub judged : (wanted : Option Wanted) (file : ShareFile) (digest : List ℕ) (verdict : Verdict) (acts new : List Act) → new ≡ Judged file digest verdict ∷ acts → Goes wanted 0 0 acts new
judged wanted file digest verdict acts new is =
    subst (Goes wanted 0 0 acts) (sym is) (one wanted 0 0 (Judged file digest verdict) acts tt (omega arith) (omega arith) refl)

pub made : (wanted : Option Wanted) (file : ShareFile) (acts new : List Act) → new ≡ Made file ∷ acts → Goes wanted 0 0 acts new
made wanted file acts new is =
    subst (Goes wanted 0 0 acts) (sym is) (one wanted 0 0 (Made file) acts tt (omega arith) (omega arith) refl)

by_kind : (wanted : Option Wanted) (kind : ErrorKind) (file : ShareFile) (acts : List Act) → Goes wanted 0 0 acts (failure_of kind file ∷ acts)
by_kind wanted NotFound file acts = one wanted 0 0 (Gone file) acts tt (omega arith) (omega arith) refl
by_kind wanted _ file acts = one wanted 0 0 (Failed file) acts tt (omega arith) (omega arith) refl

pub failed : (wanted : Option Wanted) (kind : ErrorKind) (file : ShareFile) (acts new : List Act) → new ≡ failure_of kind file ∷ acts → Goes wanted 0 0 acts new
failed wanted kind file acts new is = subst (Goes wanted 0 0 acts) (sym is) (by_kind wanted kind file acts)

-- what failed since nothing was there
pub gone : (kind : ErrorKind) (file : ShareFile) (acts new : List Act) → new ≡ failure_of kind file ∷ acts → kind ≡ NotFound → Was (Gone file) new
gone kind file acts new is nothing = subst (Was (Gone file)) (sym is) (inl (ap (λ (k : ErrorKind). failure_of k file) nothing))

-- what was found stays found
pub found_still : (wanted : Option Wanted) (file : ShareFile) (digest : List ℕ) (fate : Fate) (s t : List Act) → ((act : Act) → Was act s → Was act t) → WasFound wanted file digest fate s
    → WasFound wanted file digest fate t
found_still wanted file digest fate s t kept w = record { length = w.length; is_left_over = w.is_left_over; found = kept _ w.found; is = w.is }

pub none_still : (wanted : Option Wanted) (file : ShareFile) (digest : List ℕ) (s t : List Act) → ((act : Act) → Was act s → Was act t) → IsNoneThere wanted file digest s → IsNoneThere wanted file digest t
none_still wanted file digest s t kept (inl w) = inl (found_still wanted file digest _ s t kept w)
none_still wanted file digest s t kept (inr w) = inr (kept _ w)

-- files of one share are of one index
pub same_index : (wanted : Option Wanted) (file other : ShareFile) → file.key ≡ other.key → IsOf wanted file → IsOf wanted other
same_index None file other same of = tt
same_index (Some wanted) file other same of = ap (λ k. k.0) (sym same) ∙ of

-- ---- an empty file that was made for a name that nothing got

vain : (kind : ErrorKind) (half place : ShareFile) (acts : List Act) → WasMadeInVain place (failure_of kind half ∷ Made place ∷ acts)
vain NotFound half place acts = refl
vain _ half place acts = refl

removal : {U E : Type 0} (kind_of : E → ErrorKind) (wanted : Option Wanted) (name : ClosedName) (number : ℕ) (place : ShareFile) (acts new : List Act) (r : Result U E) → place ≡ aside_file name number
    → MayBe wanted (Removed place) acts → IfOk r (λ _. new ≡ Removed place ∷ acts) → IfErr r (λ e. new ≡ failure_of (kind_of e) place ∷ acts) → Goes wanted 0 0 acts new
removal kind_of wanted name number place acts new (Ok u) place_is may ok err =
    subst (Goes wanted 0 0 acts) (sym ok) (one wanted 0 0 (Removed place) acts may (omega arith)
    (subst (λ (p : ShareFile). removals (Removed p ∷ acts) ≡ removals acts + 0) (sym place_is) (omega arith)) refl)
removal kind_of wanted name number place acts new (Err e) place_is may ok err = failed wanted (kind_of e) place acts new err

pub left_place : {U E : Type 0} (kind_of : E → ErrorKind) (wanted : Option Wanted) (name : ClosedName) (number : ℕ) (place half : ShareFile) (kind : ErrorKind) (s m n new : List Act) (r : Result U E)
    → place ≡ aside_file name number → m ≡ Made place ∷ s → n ≡ failure_of kind half ∷ m → IfOk r (λ _. new ≡ Removed place ∷ n) → IfErr r (λ e. new ≡ failure_of (kind_of e) place ∷ n)
    → IsOf wanted (aside_file name number) → Goes wanted 0 0 s new
left_place kind_of wanted name number place half kind s m n new r place_is m_is n_is ok err of =
    let n_whole : n ≡ failure_of kind half ∷ Made place ∷ s = n_is ∙ ap (λ (xs : List Act). failure_of kind half ∷ xs) m_is in
    let may : MayBe wanted (Removed place) n =
    subst (λ (xs : List Act). MayBe wanted (Removed place) xs) (sym n_whole)
    (subst (λ (p : ShareFile). MayBe wanted (Removed p) (failure_of kind half ∷ Made p ∷ s)) (sym place_is) (of, vain kind half (aside_file name number) s)) in
    before wanted 0 0 s m new (made wanted place s m m_is) (before wanted 0 0 m n new (failed wanted kind half m n n_is) (removal kind_of wanted name number place n new r place_is may ok err))

-- ---- a file that goes

pub moved : (wanted : Option Wanted) (name : ClosedName) (own : List ℕ) (file half : ShareFile) (acts new : List Act) → file ≡ closed_file name → half ≡ half_file name own → new ≡ Moved file half ∷ acts
    → IsOf wanted (closed_file name) → IsNone wanted (closed_file name) name.digest acts → Goes wanted 0 0 acts new
moved wanted name own file half acts new file_is half_is new_is of none =
    let whole : new ≡ Moved (closed_file name) (half_file name own) ∷ acts =
    new_is ∙ ap (λ (f : ShareFile). Moved f half ∷ acts) file_is ∙ ap (λ (h : ShareFile). Moved (closed_file name) h ∷ acts) half_is in
    subst (Goes wanted 0 0 acts) (sym whole) (one wanted 0 0 (Moved (closed_file name) (half_file name own)) acts (of, refl, (refl, none)) (omega arith) (omega arith) refl)

pub away : (name : ClosedName) (file half : ShareFile) (acts new : List Act) → file ≡ closed_file name → new ≡ Moved file half ∷ acts → IsAway (closed_file name) new
away name file half acts new file_is new_is =
    inr (half, subst (Was (Moved (closed_file name) half)) (sym new_is) (inl (ap (λ (f : ShareFile). Moved f half) file_is)))

pub away_still : (file : ShareFile) (s t : List Act) → ((act : Act) → Was act s → Was act t) → IsAway file s → IsAway file t
away_still file s t kept (inl gone) = inl (kept _ gone)
away_still file s t kept (inr moved) = inr (moved.0, kept _ moved.1)

-- ---- by what a call comes to

pub as_before : {E : Type 0} (wanted : Option Wanted) (s t u : List Act) (r : Result Went E) → Goes wanted 0 0 s t → GoesAs wanted t u r → GoesAs wanted s u r
as_before wanted s t u (Ok went) first more = before wanted (aside_by went) 0 s t u first more
as_before wanted s t u (Err e) first more = before wanted 0 0 s t u first more

pub kept_as : {E : Type 0} (wanted : Option Wanted) (s t : List Act) (r : Result Went E) → GoesAs wanted s t r → (act : Act) → Was act s → Was act t
kept_as wanted s t (Ok went) goes = goes.kept
kept_as wanted s t (Err e) goes = goes.kept

pub err_goes : {E : Type 0} (wanted : Option Wanted) (s t : List Act) (P : E → Type 0) (r : Result Went E) → IsErrAnd r P → Goes wanted 0 0 s t → GoesAs wanted s t r
err_goes wanted s t P (Ok went) is goes = absurd is
err_goes wanted s t P (Err e) is goes = goes

pub on_err : {U E : Type 0} (P : E → Type 0) (r : Result U E) → ((e : E) → P e) → IfErr r P
on_err P (Ok u) always = tt
on_err P (Err e) always = always e

pub on_ok : {U E : Type 0} (P : U → Type 0) (r : Result U E) → ((u : U) → P u) → IfOk r P
on_ok P (Ok u) always = always u
on_ok P (Err e) always = tt
