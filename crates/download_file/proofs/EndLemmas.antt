-- A reader that ends.
use Rattle.std.proofs.Common.{◌≡◌, ◌≢◌, ℕ, inl, inr, All, Bool, true, false, Contains, List, [], ◌∷◌, Option, Some, None, refl, sym, ap, subst, ◌∙◌, eqb}
use Rattle.std.specs.Prelude.{slice_get, slice_set}
use Rattle.std.specs.Option.{option_eq}
use Rattle.std.proofs.lemmas.Bool.{eq-eqb, eqb-true, false≢true, true≢false}
use Rattle.lemmas.proofs.Members.{contains_cases, contains_none}
use Rattle.download_file.specs.State.{ReaderState}
use Rattle.download_file.specs.Steps.{Gives, GivesFirst}
use Rattle.download_file.proofs.ListLemmas.{All-from_contains}

pub option_is : (o : Option ℕ) (x : ℕ) → option_eq eqb o (Some x) ≡ true → o ≡ Some x
option_is None x e = absurd (false≢true e)
option_is (Some y) x e = ap Some (eqb-true y x e)

pub option_is_not : (o : Option ℕ) (x : ℕ) → option_eq eqb o (Some x) ≡ false → o ≢ Some x
option_is_not None x e f = absurd cc
option_is_not (Some y) x e f = let same : y ≡ x = cc in true≢false (sym (eq-eqb y x same) ∙ e)

pub option_is_true : (o : Option ℕ) (x : ℕ) → o ≡ Some x → option_eq eqb o (Some x) ≡ true
option_is_true None x e = absurd cc
option_is_true (Some y) x e = let same : y ≡ x = cc in eq-eqb y x same

pub option_is_false : (o : Option ℕ) (x : ℕ) → o ≢ Some x → option_eq eqb o (Some x) ≡ false
option_is_false None x e = refl
option_is_false (Some y) x e = by (eqb y x) refl
  where
    by : (b : Bool) → eqb y x ≡ b → eqb y x ≡ false
    by true k = absurd (e (ap Some (eqb-true y x k)))
    by false k = k

-- ---- the first of some readers gives

pub first_gives : (old : List ReaderState) (live taken : List ℕ) (next : ℕ) (r s : ReaderState) (new : List ReaderState) → slice_get live 0 ≡ Some next
    → slice_get old next ≡ Some r → Gives r taken s → new ≡ slice_set old next s → GivesFirst old live taken new
first_gives old live taken next r s new first at gives is = inr (record { next = next; first = first; r = r; at = at; s = s; gives = gives; new_is = is })

-- ---- one position alone

pub one_only : (x y : ℕ) → Contains (x ∷ []) y → x ≡ y
one_only x y among = elim (contains_cases x y [] among) [ inl e ↦ e | inr none ↦ absurd (contains_none y none) ]

pub only_one : (P : ℕ → Type 0) (x : ℕ) → P x → All P (x ∷ [])
only_one P x is = All-from_contains P (x ∷ []) (λ y among. subst P (one_only x y among) is)
