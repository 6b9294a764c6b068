-- Items of lists by their positions, after one was replaced or one more came, and members of lists.
use Rattle.std.proofs.Common.{◌≡◌, ℕ, ◌<◌, zero, suc, List, [], ◌∷◌, ◌++◌, length, map, Some, refl, ap, inl, inr, ◌⊎◌, sym, subst, arith}
use Rattle.std.specs.Prelude.{Contains, slice_get, slice_set}
use Rattle.std.specs.List.{flat_map}
use Rattle.std.proofs.lemmas.List.Elements.{Contains-append_left, Contains-append_right, Contains-append_cases}
use Rattle.std.proofs.lemmas.Option.{get_or_from_slice_get, slice_get_read, slice_get_within}

pub same_some : {A : Type 0} (x y : A) → Some x ≡ Some y → x ≡ y
same_some x y e = cc

-- an item after a write is the old one, or the one written
pub get_set : {A : Type 0} (xs : List A) (i j : ℕ) (x y : A) → slice_get (slice_set xs i y) j ≡ Some x → ((j ≡ i) × (x ≡ y)) ⊎ (slice_get xs j ≡ Some x)
get_set [] i j x y e = absurd cc
get_set (z ∷ zs) zero zero x y e = inl (refl, same_some x y (sym e))
get_set (z ∷ zs) zero (suc j) x y e = inr e
get_set (z ∷ zs) (suc i) zero x y e = inr e
get_set (z ∷ zs) (suc i) (suc j) x y e = elim (get_set zs i j x y e) [ inl h ↦ inl (ap suc h.0, h.1) | inr h ↦ inr h ]

-- an old item is still there, or was the one replaced
pub get_set_back : {A : Type 0} (xs : List A) (i j : ℕ) (x y : A) → slice_get xs j ≡ Some x → ((j ≡ i) × (slice_get (slice_set xs i y) j ≡ Some y)) ⊎ (slice_get (slice_set xs i y) j ≡ Some x)
get_set_back [] i j x y e = absurd cc
get_set_back (z ∷ zs) zero zero x y e = inl (refl, refl)
get_set_back (z ∷ zs) zero (suc j) x y e = inr e
get_set_back (z ∷ zs) (suc i) zero x y e = inr e
get_set_back (z ∷ zs) (suc i) (suc j) x y e = elim (get_set_back zs i j x y e) [ inl h ↦ inl (ap suc h.0, h.1) | inr h ↦ inr h ]

pub get_set_same : {A : Type 0} (xs : List A) (i : ℕ) (x y : A) → slice_get xs i ≡ Some x → slice_get (slice_set xs i y) i ≡ Some y
get_set_same [] i x y e = absurd cc
get_set_same (z ∷ zs) zero x y e = refl
get_set_same (z ∷ zs) (suc i) x y e = get_set_same zs i x y e

pub length_set : {A : Type 0} (xs : List A) (i : ℕ) (y : A) → length (slice_set xs i y) ≡ length xs
length_set [] i y = refl
length_set (z ∷ zs) zero y = refl
length_set (z ∷ zs) (suc i) y = ap suc (length_set zs i y)

pub append_none : {A : Type 0} (xs : List A) → xs ++ [] ≡ xs
append_none [] = refl
append_none (x ∷ xs) = ap (λ (ys : List _). x ∷ ys) (append_none xs)

pub get_push_old : {A : Type 0} (xs : List A) (j : ℕ) (x y : A) → slice_get xs j ≡ Some x → slice_get (xs ++ y ∷ []) j ≡ Some x
get_push_old [] j x y e = absurd cc
get_push_old (z ∷ zs) zero x y e = e
get_push_old (z ∷ zs) (suc j) x y e = get_push_old zs j x y e

pub get_push : {A : Type 0} (xs : List A) (j : ℕ) (x y : A) → slice_get (xs ++ y ∷ []) j ≡ Some x → (slice_get xs j ≡ Some x) ⊎ ((j ≡ length xs) × (x ≡ y))
get_push [] zero x y e = inr (refl, same_some x y (sym e))
get_push [] (suc j) x y e = absurd cc
get_push (z ∷ zs) zero x y e = inl e
get_push (z ∷ zs) (suc j) x y e = elim (get_push zs j x y e) [ inl h ↦ inl h | inr h ↦ inr (ap suc h.0, h.1) ]

pub push_last : {A : Type 0} (xs : List A) (x : A) → slice_get (xs ++ x ∷ []) (length xs) ≡ Some x
push_last [] x = refl
push_last (z ∷ zs) x = push_last zs x

module _ {A : Type 0} where
  pub member_here : (x : A) (xs : List A) → Contains (x ∷ xs) x
  member_here x xs = (0, omega arith, refl)

  pub member_there : (x y : A) (xs : List A) → Contains xs y → Contains (x ∷ xs) y
  member_there x y xs c = (suc c.0, omega (arith, c.1), c.2)

  pub member_none : (y : A) → Contains [] y → ⊥
  member_none y c = absurd (omega (arith, c.1))

  pub member_cases : (x y : A) (xs : List A) → Contains (x ∷ xs) y → (x ≡ y) ⊎ Contains xs y
  member_cases x y xs (zero, low, e) = inl e
  member_cases x y xs (suc k, low, e) = inr (k, omega (arith, low), e)

  pub member_at : (xs : List A) (i : ℕ) (x : A) → slice_get xs i ≡ Some x → Contains xs x
  member_at xs i x e = (i, slice_get_within xs i x e, get_or_from_slice_get xs i x x e)

  pub position_of_member : (xs : List A) (x : A) → Contains xs x → (i : ℕ) × (slice_get xs i ≡ Some x)
  position_of_member xs x c = (c.0, slice_get_read xs (length xs) c.0 x refl c.1 (sym c.2))

  pub get_below : (xs : List A) (i : ℕ) → i < length xs → (x : A) × (slice_get xs i ≡ Some x)
  get_below [] i h = absurd (omega (arith, h))
  get_below (z ∷ zs) zero h = (z, refl)
  get_below (z ∷ zs) (suc i) h = get_below zs i (omega (arith, h))

module _ {A B : Type 0} where
  pub member_map : (f : A → B) (xs : List A) (x : A) → Contains xs x → Contains (map f xs) (f x)
  member_map f [] x c = absurd (member_none x c)
  member_map f (z ∷ zs) x c = elim (member_cases z x zs c) [
    | inl e ↦ subst (λ (w : A). Contains (f z ∷ map f zs) (f w)) e (member_here (f z) (map f zs))
    | inr h ↦ member_there (f z) (f x) (map f zs) (member_map f zs x h)
  ]

  pub member_map_from : (f : A → B) (xs : List A) (y : B) → Contains (map f xs) y → (x : A) × Contains xs x × (f x ≡ y)
  member_map_from f [] y c = absurd (member_none y c)
  member_map_from f (z ∷ zs) y c = elim (member_cases (f z) y (map f zs) c) [
    | inl e ↦ (z, member_here z zs, e)
    | inr h ↦ (let p = member_map_from f zs y h in (p.0, member_there z p.0 zs p.1, p.2))
  ]

  pub member_flat : (f : A → List B) (xs : List A) (x : A) (y : B) → Contains xs x → Contains (f x) y → Contains (flat_map f xs) y
  member_flat f [] x y c d = absurd (member_none x c)
  member_flat f (z ∷ zs) x y c d = elim (member_cases z x zs c) [
    | inl e ↦ Contains-append_left (f z) (flat_map f zs) y (subst (λ (w : A). Contains (f w) y) (sym e) d)
    | inr h ↦ Contains-append_right (f z) (flat_map f zs) y (member_flat f zs x y h d)
  ]

  pub member_flat_cases : (f : A → List B) (xs : List A) (y : B) → Contains (flat_map f xs) y → (x : A) × Contains xs x × Contains (f x) y
  member_flat_cases f [] y c = absurd (member_none y c)
  member_flat_cases f (z ∷ zs) y c = elim (Contains-append_cases (f z) (flat_map f zs) y c) [
    | inl h ↦ (z, member_here z zs, h)
    | inr h ↦ (let p = member_flat_cases f zs y h in (p.0, member_there z p.0 zs p.1, p.2))
  ]
