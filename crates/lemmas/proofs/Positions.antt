-- What stands at a position of a list.
use Rattle.std.proofs.Common.{◌≡◌, ℕ, zero, suc, ◌<◌, ◌⊎◌, inl, inr, List, [], ◌∷◌, ◌++◌, length, map, set, replicate, Some, refl, sym, ap, ◌∙◌, arith}
use Rattle.std.specs.Prelude.{slice_get, slice_index_or, slice_set}
use Rattle.std.proofs.lemmas.Option.{same_Some, slice_get-get_or}

-- Each position of a list has its element.
pub get_of : {X : Type 0} (xs : List X) (i : ℕ) → i < length xs → (x : X) × (slice_get xs i ≡ Some x)
get_of [] i lt = absurd (omega (arith, lt))
get_of (x ∷ xs) zero lt = (x, refl)
get_of (x ∷ xs) (suc i) lt = get_of xs i (omega (arith, lt))

-- What an index reads stands there.
pub got : {X : Type 0} (xs : List X) (i : ℕ) (x : X) → i < length xs → x ≡ slice_index_or xs i x → slice_get xs i ≡ Some x
got xs i x lt e = slice_get-get_or xs i x lt ∙ ap Some (sym e)

-- A position of a repeated element has that element.
pub replicated : {X : Type 0} (n i : ℕ) (x y : X) → slice_get (replicate n x) i ≡ Some y → x ≡ y
replicated zero i x y e = absurd cc
replicated (suc n) zero x y e = same_Some x y e
replicated (suc n) (suc i) x y e = replicated n i x y e

-- What a function gives of an element stands at its position.
pub get_map : {X Y : Type 0} (f : X → Y) (xs : List X) (i : ℕ) (x : X) → slice_get xs i ≡ Some x → slice_get (map f xs) i ≡ Some (f x)
get_map f [] i x e = absurd cc
get_map f (y ∷ ys) zero x e = ap (λ z. Some (f z)) (same_Some y x e)
get_map f (y ∷ ys) (suc i) x e = get_map f ys i x e

-- ---- a longer list

-- What stands at a position stays there before other elements.
pub get_left : {X : Type 0} (xs ys : List X) (i : ℕ) (x : X) → slice_get xs i ≡ Some x → slice_get (xs ++ ys) i ≡ Some x
get_left [] ys i x e = absurd cc
get_left (z ∷ zs) ys zero x e = e
get_left (z ∷ zs) ys (suc i) x e = get_left zs ys i x e

-- One element more leaves the positions before it.
pub get_push : {X : Type 0} (xs : List X) (x : X) (i : ℕ) → i < length xs → slice_get (xs ++ x ∷ []) i ≡ slice_get xs i
get_push [] x i lt = absurd (omega (arith, lt))
get_push (y ∷ ys) x zero lt = refl
get_push (y ∷ ys) x (suc i) lt = get_push ys x i (omega (arith, lt))

-- One element more stands at the last position.
pub get_last : {X : Type 0} (xs : List X) (x : X) → slice_get (xs ++ x ∷ []) (length xs) ≡ Some x
get_last [] x = refl
get_last (y ∷ ys) x = get_last ys x

-- An element of a list with one more is the last, or was there before.
pub get_pushed : {X : Type 0} (xs : List X) (x y : X) (i : ℕ) → slice_get (xs ++ x ∷ []) i ≡ Some y → (slice_get xs i ≡ Some y) ⊎ ((i ≡ length xs) × (x ≡ y))
get_pushed [] x y zero e = inr (refl, same_Some x y e)
get_pushed [] x y (suc i) e = absurd cc
get_pushed (z ∷ zs) x y zero e = inl e
get_pushed (z ∷ zs) x y (suc i) e = elim (get_pushed zs x y i e) [
  | inl there ↦ inl there
  | inr last ↦ inr (ap suc last.0, last.1)
]

-- ---- a changed list

-- What was put at a position of the list stands there.
pub get_set : {X : Type 0} (xs : List X) (i : ℕ) (x y : X) → slice_get xs i ≡ Some y → slice_get (slice_set xs i x) i ≡ Some x
get_set [] i x y e = absurd cc
get_set (q ∷ qs) zero x y e = refl
get_set (q ∷ qs) (suc i) x y e = get_set qs i x y e

-- Another position keeps what stands there.
pub get_other : {X : Type 0} (xs : List X) (i j : ℕ) (x : X) → (j ≡ i → ⊥) → slice_get (slice_set xs i x) j ≡ slice_get xs j
get_other [] i j x other = refl
get_other (q ∷ qs) zero zero x other = absurd (other refl)
get_other (q ∷ qs) zero (suc j) x other = refl
get_other (q ∷ qs) (suc i) zero x other = refl
get_other (q ∷ qs) (suc i) (suc j) x other = get_other qs i j x (λ e. other (ap suc e))

-- The same of the word that has no bound.
pub get_set_other : {X : Type 0} (xs : List X) (i j : ℕ) (y : X) → (j ≡ i → ⊥) → slice_get (set xs i y) j ≡ slice_get xs j
get_set_other [] i j y other = refl
get_set_other (x ∷ xs) zero zero y other = absurd (other refl)
get_set_other (x ∷ xs) zero (suc j) y other = refl
get_set_other (x ∷ xs) (suc i) zero y other = refl
get_set_other (x ∷ xs) (suc i) (suc j) y other = get_set_other xs i j y (λ e. other (ap suc e))

-- What stands at a position afterwards: the new one at its position, and else the old one.
pub set_cases : {X : Type 0} (xs : List X) (i j : ℕ) (x y : X) → slice_get (slice_set xs i x) j ≡ Some y → ((j ≡ i) × (x ≡ y)) ⊎ ((j ≡ i → ⊥) × (slice_get xs j ≡ Some y))
set_cases [] i j x y e = absurd cc
set_cases (q ∷ qs) zero zero x y e = inl (refl, same_Some x y e)
set_cases (q ∷ qs) zero (suc j) x y e = inr ((λ f. omega (arith, f)), e)
set_cases (q ∷ qs) (suc i) zero x y e = inr ((λ f. omega (arith, f)), e)
set_cases (q ∷ qs) (suc i) (suc j) x y e = elim (set_cases qs i j x y e) [
  | inl k ↦ inl (ap suc k.0, k.1)
  | inr k ↦ inr ((λ f. k.0 (omega (arith, f))), k.1)
]
