-- Numbers that rise.
use Rattle.std.proofs.Common.{◌≡◌, ℕ, ◌+◌, ◌<◌, List, [], ◌∷◌, ◌++◌, ◌||◌, Bool, true, false, All, eqb, get_or, ap, sym, subst, refl, ◌∙◌, arith}
use Rattle.std.specs.Cmp.{nat_eq_equiv}
use Rattle.std.specs.List.{IsDistinct, list_any}
use Rattle.std.proofs.lemmas.Bool.{eqb-true}
use Rattle.std.proofs.lemmas.List.Elements.{All-head, All-push, All-tail}
use Rattle.std.proofs.lemmas.Map.Keys.{IsDistinct-push}

-- no number twice, and all below this one
pub record AreBelow (xs : List ℕ) (n : ℕ) : Type 0 where
  pub distinct : IsDistinct eqb xs
  pub below : All (λ x. x < n) xs

-- a number above all of these is none of them
is_absent : (xs : List ℕ) (x : ℕ) → All (λ n. n < x) xs → list_any (eqb x) xs ≡ false
is_absent [] x below = refl
is_absent (y ∷ ys) x below = by (eqb x y) refl (is_absent ys x (All-tail (λ n. n < x) y ys below))
  where
    by : (b : Bool) → eqb x y ≡ b → list_any (eqb x) ys ≡ false → (eqb x y || list_any (eqb x) ys) ≡ false
    by true e r = let low : y < x = All-head (λ n. n < x) y ys below in absurd (omega (arith, eqb-true x y e, low))
    by false e r = ap (λ b. b || list_any (eqb x) ys) e ∙ r

none_distinct : IsDistinct eqb []
unfolding IsDistinct
none_distinct = tt

pub none_below : (xs : List ℕ) → xs ≡ [] → AreBelow xs 0
none_below xs e = subst (λ l. AreBelow l 0) (sym e) (record { distinct = none_distinct; below = λ k d within. absurd (omega (arith, within)) })

-- what is below a number is below the next one
pub still_below : (xs : List ℕ) (n : ℕ) → AreBelow xs n → AreBelow xs (n + 1)
still_below xs n b = record { distinct = b.distinct; below = λ k d within. let low : get_or xs k d < n = b.below k d within in omega (arith, low) }

-- the number itself, added to those below it
pub more_below : (xs ys : List ℕ) (n : ℕ) → AreBelow xs n → ys ≡ xs ++ n ∷ [] → AreBelow ys (n + 1)
more_below xs ys n b e = subst (λ l. AreBelow l (n + 1)) (sym e) (record {
  distinct = IsDistinct-push nat_eq_equiv xs n b.distinct (is_absent xs n b.below);
  below = All-push (λ x. x < n + 1) xs n (still_below xs n b).below (omega arith);
})
