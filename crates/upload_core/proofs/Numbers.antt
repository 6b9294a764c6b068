-- Lists of numbers, none twice.
use Rattle.std.proofs.Common.{◌≡◌, ℕ, ◌⊎◌, inl, inr, Bool, true, false, cond, List, [], ◌∷◌, ◌++◌, filter, eqb, refl, sym, ap, ◌∙◌, true≢false}
use Rattle.std.specs.List.{IsDistinct, AllByRecursion}
use Rattle.std.specs.Set.{is_member}
use Rattle.std.proofs.lemmas.Bool.{eq-eqb, eqb-true, or_left, or_right}
use Rattle.lemmas.proofs.Members.{each_append}
use Rattle.upload_core.proofs.Records.{either}

absent : (x : ℕ) (ys : List ℕ) → (is_member eqb ys x ≡ true → ⊥) → AllByRecursion (λ z. eqb x z ≡ false) ys
absent x [] out = tt
absent x (y ∷ ys) out = (by (eqb x y) refl, absent x ys (λ h. out (or_right (eqb x y) (is_member eqb ys x) h)))
  where
    by : (b : Bool) → eqb x y ≡ b → eqb x y ≡ false
    by true e = absurd (out (or_left (eqb x y) (is_member eqb ys x) e))
    by false e = e

pub distinct_append : (xs ys : List ℕ) → IsDistinct eqb xs → IsDistinct eqb ys → ((s : ℕ) → is_member eqb xs s ≡ true → is_member eqb ys s ≡ true → ⊥) → IsDistinct eqb (xs ++ ys)
unfolding IsDistinct
distinct_append [] ys a b apart = b
distinct_append (x ∷ xs) ys a b apart = (
  each_append (λ z. eqb x z ≡ false) xs ys a.0 (absent x ys (apart x (or_left (eqb x x) (is_member eqb xs x) (eq-eqb x x refl)))),
  distinct_append xs ys a.1 b (λ s h k. apart s (or_right (eqb s x) (is_member eqb xs s) h) k),
)

-- a member of what a filter keeps
pub from_kept : (t : ℕ → Bool) (xs : List ℕ) (s : ℕ) → is_member eqb (filter t xs) s ≡ true → (is_member eqb xs s ≡ true) × (t s ≡ true)
from_kept t [] s h = absurd (true≢false (sym h))
from_kept t (x ∷ xs) s h = by (t x) refl h (from_kept t xs s)
  where
    by : (b : Bool) → t x ≡ b → is_member eqb (cond b (x ∷ filter t xs) (filter t xs)) s ≡ true → (is_member eqb (filter t xs) s ≡ true → (is_member eqb xs s ≡ true) × (t s ≡ true)) → (is_member eqb (x ∷ xs) s ≡ true) × (t s ≡ true)
    by true e k f =
        elim (either (eqb s x) (is_member eqb (filter t xs) s) k) [
          | inl same ↦ (or_left (eqb s x) (is_member eqb xs s) same, ap t (eqb-true s x same) ∙ e)
          | inr rest ↦ (let r = f rest in (or_right (eqb s x) (is_member eqb xs s) r.0, r.1))
        ]
    by false e k f = let r = f k in (or_right (eqb s x) (is_member eqb xs s) r.0, r.1)

pub to_kept : (t : ℕ → Bool) (xs : List ℕ) (s : ℕ) → is_member eqb xs s ≡ true → t s ≡ true → is_member eqb (filter t xs) s ≡ true
to_kept t [] s h e = absurd (true≢false (sym h))
to_kept t (x ∷ xs) s h e = by (t x) refl (either (eqb s x) (is_member eqb xs s) h) (λ rest. to_kept t xs s rest e)
  where
    by : (b : Bool) → t x ≡ b → (eqb s x ≡ true) ⊎ (is_member eqb xs s ≡ true) → (is_member eqb xs s ≡ true → is_member eqb (filter t xs) s ≡ true) → is_member eqb (cond b (x ∷ filter t xs) (filter t xs)) s ≡ true
    by true k (inl same) f = or_left (eqb s x) (is_member eqb (filter t xs) s) same
    by true k (inr rest) f = or_right (eqb s x) (is_member eqb (filter t xs) s) (f rest)
    by false k (inl same) f = absurd (true≢false (sym e ∙ ap t (eqb-true s x same) ∙ k))
    by false k (inr rest) f = f rest
