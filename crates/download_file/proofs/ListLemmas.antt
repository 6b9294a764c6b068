-- What stands at a position of a list, and what a list contains.
use Rattle.std.proofs.Common.{◌≡◌, ℕ, zero, suc, ◌⊎◌, inl, inr, List, [], ◌∷◌, ◌++◌, Contains, All, map, Some, refl, sym, ap, ◌∙◌, arith}
use Rattle.std.specs.Prelude.{slice_get, slice_index_or, slice_set}
use Rattle.std.proofs.lemmas.List.Elements.{Contains-get_or}
use Rattle.lemmas.proofs.Options.{one_there}
use Rattle.lemmas.proofs.Positions.{got}
pub use Rattle.lemmas.proofs.Members.{contains_head as first_in, contains_tail as more_in, contains_map}
use Rattle.download_file.specs.State.{ReaderState, waiting_in}
use Rattle.lemmas.proofs.Members.{contains_at}

pub at_contained : {X : Type 0} (xs : List X) (x : X) → Contains xs x → (i : ℕ) × (slice_get xs i ≡ Some x)
at_contained xs x h = (h.0, got xs h.0 x h.1 (sym h.2))

-- ---- one more at the end

pub get_first : {X : Type 0} (xs ys : List X) (y : X) (i : ℕ) → slice_get xs i ≡ Some y → slice_get (xs ++ ys) i ≡ Some y
get_first [] ys y i e = absurd cc
get_first (q ∷ qs) ys y zero e = e
get_first (q ∷ qs) ys y (suc i) e = get_first qs ys y i e

-- ---- one position is changed

pub get_cases : {X : Type 0} (xs : List X) (i j : ℕ) (x y z : X) → slice_get xs i ≡ Some y → slice_get xs j ≡ Some z
    → ((j ≡ i) × (y ≡ z) × (slice_get (slice_set xs i x) j ≡ Some x)) ⊎ ((j ≡ i → ⊥) × (slice_get (slice_set xs i x) j ≡ Some z))
get_cases [] i j x y z e f = absurd cc
get_cases (q ∷ qs) zero zero x y z e f = inl (refl, one_there (Some q) y z e f, refl)
get_cases (q ∷ qs) zero (suc j) x y z e f = inr ((λ g. omega (arith, g)), f)
get_cases (q ∷ qs) (suc i) zero x y z e f = inr ((λ g. omega (arith, g)), f)
get_cases (q ∷ qs) (suc i) (suc j) x y z e f = elim (get_cases qs i j x y z e f) [
  | inl k ↦ inl (ap suc k.0, k.1, k.2)
  | inr k ↦ inr ((λ g. k.0 (omega (arith, g))), k.1)
]

-- what is told of each stays where the one that is put there tells the same
pub map_set : {X Y : Type 0} (f : X → Y) (xs : List X) (i : ℕ) (x y : X) → slice_get xs i ≡ Some y → f x ≡ f y → map f (slice_set xs i x) ≡ map f xs
map_set f [] i x y e same = refl
map_set {X} {Y} f (q ∷ qs) zero x y e same = let is : q ≡ y = cc in ap (λ (v : Y). v ∷ map f qs) (same ∙ sym (ap f is))
map_set {X} {Y} f (q ∷ qs) (suc i) x y e same = ap (λ (l : List Y). f q ∷ l) (map_set f qs i x y e same)

pub set_again : {X : Type 0} (xs : List X) (i : ℕ) (x y : X) → slice_set (slice_set xs i x) i y ≡ slice_set xs i y
set_again [] i x y = refl
set_again (q ∷ qs) zero x y = refl
set_again {X} (q ∷ qs) (suc i) x y = ap (λ (l : List X). q ∷ l) (set_again qs i x y)

pub set_same : {X : Type 0} (xs : List X) (i : ℕ) (x : X) → slice_get xs i ≡ Some x → slice_set xs i x ≡ xs
set_same [] i x e = refl
set_same {X} (q ∷ qs) zero x e = let is : q ≡ x = cc in ap (λ (v : X). v ∷ qs) (sym is)
set_same {X} (q ∷ qs) (suc i) x e = ap (λ (l : List X). q ∷ l) (set_same qs i x e)

-- what holds of all that a list contains holds of each element
pub All-from_contains : {X : Type 0} (P : X → Type 0) (xs : List X) → ((x : X) → Contains xs x → P x) → All P xs
All-from_contains P xs each = λ k d low. each (slice_index_or xs k d) (Contains-get_or xs k d low)

-- what waits at a position stays where a reader with the same is put
pub waiting_set : (rs : List ReaderState) (i j : ℕ) (x y : ReaderState) → slice_get rs i ≡ Some y → x.waiting ≡ y.waiting → waiting_in (slice_get (slice_set rs i x) j) ≡ waiting_in (slice_get rs j)
waiting_set [] i j x y e same = refl
waiting_set (q ∷ qs) zero zero x y e same = let is : q ≡ y = cc in same ∙ ap (λ (r : ReaderState). r.waiting) (sym is)
waiting_set (q ∷ qs) zero (suc j) x y e same = refl
waiting_set (q ∷ qs) (suc i) zero x y e same = refl
waiting_set (q ∷ qs) (suc i) (suc j) x y e same = waiting_set qs i j x y e same

pub from_map : {X Y : Type 0} (f : X → Y) (xs : List X) (y : Y) → Contains (map f xs) y → (x : X) × Contains xs x × (f x ≡ y)
from_map f xs y h =
    let k = unmapped f xs h.0 y (got (map f xs) h.0 y h.1 (sym h.2)) in
    (k.0, contains_at xs h.0 k.0 k.1, k.2)
  where
    unmapped : {X Y : Type 0} (f : X → Y) (xs : List X) (i : ℕ) (y : Y) → slice_get (map f xs) i ≡ Some y → (x : X) × (slice_get xs i ≡ Some x) × (f x ≡ y)
    unmapped f [] i y e = absurd cc
    unmapped f (q ∷ qs) zero y e = (q, refl, cc)
    unmapped f (q ∷ qs) (suc i) y e = unmapped f qs i y e

pub get_unmapped : {X Y : Type 0} (f : X → Y) (xs : List X) (i : ℕ) (y : Y) → slice_get (map f xs) i ≡ Some y → (x : X) × (slice_get xs i ≡ Some x) × (f x ≡ y)
get_unmapped f [] i y e = absurd cc
get_unmapped f (q ∷ qs) zero y e = (q, refl, cc)
get_unmapped f (q ∷ qs) (suc i) y e = get_unmapped f qs i y e
