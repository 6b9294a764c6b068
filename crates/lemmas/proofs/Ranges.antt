-- What holds of the numbers from one to another.
use Rattle.std.proofs.Common.{◌≡◌, ℕ, zero, suc, ◌+◌, ◌-◌, ◌<◌, ◌≤◌, List, [], ◌∷◌, ◌++◌, Contains, map, refl, sym, ap, ap₂, subst, ◌∙◌, arith}
use Rattle.std.specs.List.{range_with_len}
use Rattle.std.proofs.lemmas.List.FromFn.{get_or-range_with_len, length-range_with_len, map-range_with_len_more}

-- A longer range has one number more at its end.
pub range_push : (a n : ℕ) → range_with_len a (suc n) ≡ range_with_len a n ++ (a + n) ∷ []
range_push a zero = let same : a ≡ a + zero = omega arith in ap (λ (x : ℕ). x ∷ []) same
range_push a (suc n) =
    let on : a + 1 + n ≡ a + suc n = omega arith in
    ap (λ (xs : List ℕ). a ∷ xs) (range_push (a + 1) n) ∙ ap (λ (x : ℕ). a ∷ (range_with_len (a + 1) n ++ x ∷ [])) on

-- The same, where the longer range is told by a sum.
pub range_more : (a n : ℕ) → range_with_len a (n + 1) ≡ range_with_len a n ++ (a + n) ∷ []
range_more a n = let next : n + 1 ≡ suc n = omega arith in ap (range_with_len a) next ∙ range_push a n

-- A range contains each number from its first on and before its end.
pub range_has : (a n q : ℕ) → a ≤ q → q < a + n → Contains (range_with_len a n) q
range_has a n q from before =
    let low : q - a < n = omega (arith, from, before) in
    let is : a + (q - a) ≡ q = omega (arith, from) in
    (q - a, subst (λ (m : ℕ). q - a < m) (sym (length-range_with_len a n)) low, get_or-range_with_len a n (q - a) q low ∙ is)

-- Two functions that give the same for all below n give one list.
pub same_below : {X : Type 0} (f g : ℕ → X) (n : ℕ) → ((p : ℕ) → p < n → f p ≡ g p) → map f (range_with_len 0 n) ≡ map g (range_with_len 0 n)
same_below {X} f g n same = go n same
  where
    go : (m : ℕ) → ((p : ℕ) → p < m → f p ≡ g p) → map f (range_with_len 0 m) ≡ map g (range_with_len 0 m)
    go zero h = refl
    go (suc m) h =
        let e : suc m ≡ m + 1 = omega arith in
        ap (λ k. map f (range_with_len 0 k)) e ∙ map-range_with_len_more f 0 m m (omega arith)
        ∙ ap₂ (λ (xs : List X) (x : X). xs ++ x ∷ []) (go m (λ p lt. h p (omega arith))) (h m (omega arith))
        ∙ sym (map-range_with_len_more g 0 m m (omega arith)) ∙ ap (λ k. map g (range_with_len 0 k)) (sym e)
