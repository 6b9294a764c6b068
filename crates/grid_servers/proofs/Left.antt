-- Some of distinct numbers are distinct.
use Rattle.std.proofs.Common.{◌≡◌, ℕ, List, [], ◌∷◌, Bool, true, false, cond, eqb, filter}
use Rattle.std.specs.List.{AllByRecursion, IsDistinct}

-- the head and the rest of what holds of all, with or without the head
kept : {X : Type 0} (P : X → Type 0) (b : Bool) (x : X) (xs : List X) → P x → AllByRecursion P xs
    → AllByRecursion P (cond b (x ∷ xs) xs)
kept P true x xs here rest = (here, rest)
kept P false x xs here rest = rest

all_filtered : {X : Type 0} (P : X → Type 0) (p : X → Bool) (xs : List X) → AllByRecursion P xs
    → AllByRecursion P (filter p xs)
all_filtered P p [] all = tt
all_filtered P p (x ∷ xs) (here, rest) =
    kept P (p x) x (filter p xs) here (all_filtered P p xs rest)

-- the head apart from the rest, with or without the head
apart : (b : Bool) (x : ℕ) (xs : List ℕ) → AllByRecursion (λ y. eqb x y ≡ false) xs
    → IsDistinct eqb xs → IsDistinct eqb (cond b (x ∷ xs) xs)
unfolding IsDistinct
apart true x xs others rest = (others, rest)
apart false x xs others rest = rest

pub filtered_distinct : (p : ℕ → Bool) (xs : List ℕ) → IsDistinct eqb xs
    → IsDistinct eqb (filter p xs)
unfolding IsDistinct
filtered_distinct p [] distinct = tt
filtered_distinct p (x ∷ xs) (others, rest) =
    apart (p x) x (filter p xs) (all_filtered (λ y. eqb x y ≡ false) p xs others)
    (filtered_distinct p xs rest)
