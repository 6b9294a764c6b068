-- The readers that are read.
use Rattle.std.proofs.Common.{◌≡◌, ℕ, zero, suc, ◌<◌, ◌≤◌, ◌⊎◌, inl, inr, Bool, true, false, cond, not, Contains, List, [], ◌∷◌, ◌++◌, length, Some, refl, sym, ap, subst, ◌∙◌, arith}
use Rattle.std.specs.Prelude.{◌==◌, slice_get}
use Rattle.std.proofs.lemmas.Bool.{eq-eqb, eqb-true, true≢false}
use Rattle.std.proofs.lemmas.List.Elements.{Contains-push_cases}
pub use Rattle.lemmas.proofs.Members.{contains_cases as cons_cases, contains_none as none_in}
use Rattle.lemmas.proofs.Members.{contains_at, contains_head, contains_tail, contains_cases, contains_none}
use Rattle.download_file.specs.Right.{AreDistinct}
use Rattle.download_file.specs.State.{without}

pub first_live : (xs : List ℕ) (g : ℕ) → slice_get xs 0 ≡ Some g → Contains xs g
first_live [] g e = absurd cc
first_live (x ∷ xs) g e = let is : x ≡ g = cc in subst (λ (n : ℕ). Contains (x ∷ xs) n) is (contains_head x xs)

-- ---- a position is not listed any more

without_by : (position x : ℕ) (xs : List ℕ) (b : Bool) → (x == position) ≡ b → without position (x ∷ xs) ≡ cond b (without position xs) (x ∷ without position xs)
without_by position x xs true e = ap (λ (t : Bool). cond (not t) (x ∷ without position xs) (without position xs)) e
without_by position x xs false e = ap (λ (t : Bool). cond (not t) (x ∷ without position xs) (without position xs)) e

-- the first is kept, or is the position
without_cases : (position x : ℕ) (xs : List ℕ) → ((x ≡ position) × (without position (x ∷ xs) ≡ without position xs)) ⊎ ((x ≡ position → ⊥) × (without position (x ∷ xs) ≡ x ∷ without position xs))
without_cases position x xs = by (x == position) refl
  where
    by : (b : Bool) → (x == position) ≡ b → ((x ≡ position) × (without position (x ∷ xs) ≡ without position xs)) ⊎ ((x ≡ position → ⊥) × (without position (x ∷ xs) ≡ x ∷ without position xs))
    by true e = inl (eqb-true x position e, without_by position x xs true e)
    by false e = inr ((λ f. true≢false (sym (eq-eqb x position f) ∙ e)), without_by position x xs false e)

pub without_keeps : (position q : ℕ) (xs : List ℕ) → Contains xs q → (q ≡ position → ⊥) → Contains (without position xs) q
without_keeps position q [] h other = absurd (contains_none q h)
without_keeps position q (x ∷ xs) h other = elim (without_cases position x xs) [
  | inl gone ↦ subst (λ (l : List ℕ). Contains l q) (sym gone.1) (elim (contains_cases x q xs h) [
    | inl e ↦ absurd (other (sym e ∙ gone.0))
    | inr more ↦ without_keeps position q xs more other
  ])
  | inr kept ↦ subst (λ (l : List ℕ). Contains l q) (sym kept.1) (elim (contains_cases x q xs h) [
    | inl e ↦ subst (λ (n : ℕ). Contains (x ∷ without position xs) n) e (contains_head x (without position xs))
    | inr more ↦ contains_tail x q (without position xs) (without_keeps position q xs more other)
  ])
]

pub from_without : (position q : ℕ) (xs : List ℕ) → Contains (without position xs) q → Contains xs q × (q ≡ position → ⊥)
from_without position q [] h = absurd (contains_none q h)
from_without position q (x ∷ xs) h = elim (without_cases position x xs) [
  | inl gone ↦
      let k = from_without position q xs (subst (λ (l : List ℕ). Contains l q) gone.1 h) in
      (contains_tail x q xs k.0, k.1)
  | inr kept ↦ elim (contains_cases x q (without position xs) (subst (λ (l : List ℕ). Contains l q) kept.1 h)) [
    | inl e ↦ (subst (λ (n : ℕ). Contains (x ∷ xs) n) e (contains_head x xs), (λ f. kept.0 (e ∙ f)))
    | inr more ↦ let k = from_without position q xs more in (contains_tail x q xs k.0, k.1)
  ]
]

pub length-without : (position : ℕ) (xs : List ℕ) → length (without position xs) ≤ length xs
length-without position [] = omega arith
length-without position (x ∷ xs) =
    let rest = length-without position xs in
    elim (without_cases position x xs) [
      | inl gone ↦ let e = ap length gone.1 in omega (arith, rest, e)
      | inr kept ↦ let e = ap length kept.1 in omega (arith, rest, e)
    ]

-- where another than the first goes, the first stays
pub first_stays : (position g : ℕ) (xs : List ℕ) → slice_get xs 0 ≡ Some g → (g ≡ position → ⊥) → slice_get (without position xs) 0 ≡ Some g
first_stays position g [] e other = absurd cc
first_stays position g (x ∷ xs) e other =
    let is : x ≡ g = cc in
    elim (without_cases position x xs) [
      | inl gone ↦ absurd (other (sym is ∙ gone.0))
      | inr kept ↦ ap (λ (l : List ℕ). slice_get l 0) kept.1 ∙ e
    ]

pub something_first : (xs : List ℕ) (x : ℕ) → Contains xs x → (g : ℕ) × (slice_get xs 0 ≡ Some g)
something_first [] x h = absurd (contains_none x h)
something_first (y ∷ ys) x h = (y, refl)

-- the first that is left was the first, where another goes
pub first_was : (position g : ℕ) (xs : List ℕ) → slice_get (without position xs) 0 ≡ Some g → (slice_get xs 0 ≡ Some position → ⊥) → slice_get xs 0 ≡ Some g
first_was position g [] e other = e
first_was position g (x ∷ xs) e other = elim (without_cases position x xs) [
  | inl gone ↦ absurd (other (ap Some gone.0))
  | inr kept ↦ sym (ap (λ (l : List ℕ). slice_get l 0) kept.1) ∙ e
]

-- ---- positions of which each is listed once

pub distinct_push : (xs : List ℕ) (y : ℕ) → AreDistinct xs → ¬ Contains xs y → AreDistinct (xs ++ y ∷ [])
distinct_push [] y distinct new = ((λ h. contains_none y h), tt)
distinct_push (x ∷ xs) y distinct new = (
  (λ h. elim (Contains-push_cases xs y x h) [
    | inl old ↦ distinct.0 old
    | inr same ↦ new (subst (λ (n : ℕ). Contains (x ∷ xs) n) (sym same) (contains_head x xs))
  ]),
  distinct_push xs y distinct.1 (λ h. new (contains_tail x y xs h)),
)

pub distinct_without : (position : ℕ) (xs : List ℕ) → AreDistinct xs → AreDistinct (without position xs)
distinct_without position [] distinct = tt
distinct_without position (x ∷ xs) distinct =
    let rest = distinct_without position xs distinct.1 in
    elim (without_cases position x xs) [
      | inl gone ↦ subst AreDistinct (sym gone.1) rest
      | inr kept ↦ subst AreDistinct (sym kept.1) ((λ h. distinct.0 (from_without position x xs h).0), rest)
    ]

-- at different places different ones stand
pub distinct_order : (xs : List ℕ) (i j x y : ℕ) → AreDistinct xs → i < j → slice_get xs i ≡ Some x → slice_get xs j ≡ Some y → x ≡ y → ⊥
distinct_order [] i j x y distinct order one two same = absurd cc
distinct_order (q ∷ qs) zero zero x y distinct order one two same = absurd (omega (arith, order))
distinct_order (q ∷ qs) zero (suc j) x y distinct order one two same =
    let is : q ≡ x = cc in
    distinct.0 (subst (λ (n : ℕ). Contains qs n) (sym (is ∙ same)) (contains_at qs j y two))
distinct_order (q ∷ qs) (suc i) zero x y distinct order one two same = absurd (omega (arith, order))
distinct_order (q ∷ qs) (suc i) (suc j) x y distinct order one two same = distinct_order qs i j x y distinct.1 (omega (arith, order)) one two same
