-- What a list contains.
use Rattle.std.proofs.Common.{◌≡◌, ℕ, zero, suc, ◌⊎◌, inl, inr, Bool, true, false, cond, List, [], ◌∷◌, ◌++◌, Contains, map, filter, eqb, Some, refl, sym, subst, arith}
use Rattle.std.specs.Prelude.{slice_get}
use Rattle.std.specs.List.{IsDistinct, AllByRecursion, flat_map}
use Rattle.std.proofs.lemmas.List.Elements.{Contains-append_cases, Contains-append_left, Contains-append_right}
use Rattle.std.proofs.lemmas.Option.{get_or_from_slice_get, same_Some, slice_get_within}
use Rattle.lemmas.proofs.Positions.{get_map, got}

-- An empty list contains nothing.
pub contains_none : {X : Type 0} (x : X) → Contains [] x → ⊥
contains_none x at = omega (arith, at.1)

-- A list contains its first element.
pub contains_head : {X : Type 0} (x : X) (xs : List X) → Contains (x ∷ xs) x
contains_head x xs = (zero, omega arith, refl)

-- A list contains what it contains behind its first element.
pub contains_tail : {X : Type 0} (x y : X) (xs : List X) → Contains xs y → Contains (x ∷ xs) y
contains_tail x y xs at = (suc at.0, omega (arith, at.1), at.2)

-- What a list contains is its first element, or stands behind it.
pub contains_cases : {X : Type 0} (x y : X) (xs : List X) → Contains (x ∷ xs) y → (x ≡ y) ⊎ Contains xs y
contains_cases x y xs (zero, lt, is) = inl is
contains_cases x y xs (suc k, lt, is) = inr (k, omega (arith, lt), is)

-- A list contains what stands at one of its positions.
pub contains_at : {X : Type 0} (xs : List X) (i : ℕ) (x : X) → slice_get xs i ≡ Some x → Contains xs x
contains_at xs i x e = (i, slice_get_within xs i x e, get_or_from_slice_get xs i x x e)

-- ---- lists made of others

-- What a function gives of each element of a list is contained in what it gives of the list.
pub contains_map : {X Y : Type 0} (f : X → Y) (xs : List X) (x : X) → Contains xs x → Contains (map f xs) (f x)
contains_map f xs x h = contains_at (map f xs) h.0 (f x) (get_map f xs h.0 x (got xs h.0 x h.1 (sym h.2)))

-- What one of the lists contains, those of all elements joined contain.
pub flat_map_has : {X A : Type 0} (f : X → List A) (xs : List X) (i : ℕ) (x : X) (a : A) → slice_get xs i ≡ Some x → Contains (f x) a → Contains (flat_map f xs) a
flat_map_has f [] i x a e at = absurd cc
flat_map_has f (y ∷ ys) zero x a e at =
    Contains-append_left (f y) (flat_map f ys) a (subst (λ z. Contains (f z) a) (sym (same_Some y x e)) at)
flat_map_has f (y ∷ ys) (suc i) x a e at = Contains-append_right (f y) (flat_map f ys) a (flat_map_has f ys i x a e at)

-- An element whose list contains this.
pub record IsFrom {X A : Type 0} (f : X → List A) (xs : List X) (a : A) : Type 0 where
  pub position : ℕ
  pub source : X
  pub there : slice_get xs position ≡ Some source
  pub has : Contains (f source) a

-- What the joined lists contain is from one of them.
pub flat_map_from : {X A : Type 0} (f : X → List A) (xs : List X) (a : A) → Contains (flat_map f xs) a → IsFrom f xs a
flat_map_from f [] a at = absurd (contains_none a at)
flat_map_from f (x ∷ xs) a at = elim (Contains-append_cases (f x) (flat_map f xs) a at) [
  | inl here ↦ record { position = 0; source = x; there = refl; has = here }
  | inr later ↦ (
      let found = flat_map_from f xs a later in
      record { position = suc found.position; source = found.source; there = found.there; has = found.has })
]

-- ---- lists with all elements of a kind, or all apart

-- What is true of each element of two lists is true of each of both joined.
pub each_append : (P : ℕ → Type 0) (xs ys : List ℕ) → AllByRecursion P xs → AllByRecursion P ys → AllByRecursion P (xs ++ ys)
each_append P [] ys a b = b
each_append P (x ∷ xs) ys a b = (a.0, each_append P xs ys a.1 b)

-- What is true of each element stays true of those that a test keeps.
each_kept : (P : ℕ → Type 0) (t : ℕ → Bool) (xs : List ℕ) → AllByRecursion P xs → AllByRecursion P (filter t xs)
each_kept P t [] all = tt
each_kept P t (x ∷ xs) all = by (t x) (each_kept P t xs all.1)
  where
    by : (b : Bool) → AllByRecursion P (filter t xs) → AllByRecursion P (cond b (x ∷ filter t xs) (filter t xs))
    by true r = (all.0, r)
    by false r = r

-- Numbers that are apart are so among those that a test keeps.
pub distinct_kept : (t : ℕ → Bool) (xs : List ℕ) → IsDistinct eqb xs → IsDistinct eqb (filter t xs)
unfolding IsDistinct
distinct_kept t [] d = tt
distinct_kept t (x ∷ xs) d = by (t x) (distinct_kept t xs d.1)
  where
    by : (b : Bool) → IsDistinct eqb (filter t xs) → IsDistinct eqb (cond b (x ∷ filter t xs) (filter t xs))
    by true r = (each_kept (λ z. eqb x z ≡ false) t xs d.0, r)
    by false r = r
