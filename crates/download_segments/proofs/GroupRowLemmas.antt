-- Texts at their offsets.
use Rattle.std.proofs.Common.{◌≡◌, ℕ, zero, suc, ◌+◌, ◌<◌, All, List, [], ◌∷◌, ◌++◌, length, map, get_or, refl, sym, ap, subst, arith}

-- one text more
pub nth_pushed : {X : Type 0} (f : X → List ℕ) (P : ℕ → List ℕ → Type 0) (xs : List X) (x : X)
    → ((i : ℕ) → i < length xs → P i (get_or (map f xs) i [])) → P (length xs) (f x)
    → (i : ℕ) → i < length xs + 1 → P i (get_or (map f (xs ++ x ∷ [])) i [])
nth_pushed f P [] x all one zero low = one
nth_pushed f P [] x all one (suc i) low = absurd (omega (arith, low))
nth_pushed f P (y ∷ ys) x all one zero low = all 0 (omega arith)
nth_pushed f P (y ∷ ys) x all one (suc i) low =
    nth_pushed f (λ n. P (suc n)) ys x (λ n below. all (suc n) (omega (arith, below))) one i (omega (arith, low))

-- one of them
pub nth_item : {X : Type 0} (f : X → List ℕ) (xs : List X) (i : ℕ) (x : X) → i < length xs → x ≡ get_or xs i x → get_or (map f xs) i [] ≡ f x
nth_item f [] i x low is = absurd (omega (arith, low))
nth_item f (y ∷ ys) zero x low is = ap f (sym is)
nth_item f (y ∷ ys) (suc i) x low is = nth_item f ys i x (omega (arith, low)) is

-- what holds of each by its position, holds of all
pub from_nth : {X : Type 0} (f : X → List ℕ) (P : List ℕ → Type 0) (xs : List X) → ((i : ℕ) → i < length xs → P (get_or (map f xs) i [])) → All (λ x. P (f x)) xs
from_nth f P xs all i d low = subst P (nth_item f xs i (get_or xs i d) low (within xs i d low)) (all i low)
  where
    within : {X : Type 0} (xs : List X) (i : ℕ) (d : X) → i < length xs → get_or xs i d ≡ get_or xs i (get_or xs i d)
    within [] i d low = absurd (omega (arith, low))
    within (y ∷ ys) zero d low = refl
    within (y ∷ ys) (suc i) d low = within ys i d (omega (arith, low))
