-- What holds of eight numbers, and of eight lists.
use Rattle.std.proofs.Common.{◌≡◌, ℕ, zero, suc, ◌<◌, List, [], ◌∷◌, length, get_or, refl, arith}

-- What holds of eight numbers holds of all below eight.
pub by_eight : (P : ℕ → Type 0) → P 0 → P 1 → P 2 → P 3 → P 4 → P 5 → P 6 → P 7 → (k : ℕ) → k < 8 → P k
by_eight P a b c d e f g h zero below = a
by_eight P a b c d e f g h (suc zero) below = b
by_eight P a b c d e f g h (suc (suc zero)) below = c
by_eight P a b c d e f g h (suc (suc (suc zero))) below = d
by_eight P a b c d e f g h (suc (suc (suc (suc zero)))) below = e
by_eight P a b c d e f g h (suc (suc (suc (suc (suc zero))))) below = f
by_eight P a b c d e f g h (suc (suc (suc (suc (suc (suc zero)))))) below = g
by_eight P a b c d e f g h (suc (suc (suc (suc (suc (suc (suc zero))))))) below = h
by_eight P a b c d e f g h (suc (suc (suc (suc (suc (suc (suc (suc k)))))))) below = absurd (omega arith)

-- A list of eight lists is the list of what stands at its positions.
pub eight_of : (s : List (List ℕ)) → length s ≡ 8
    → s ≡ get_or s 0 [] ∷ get_or s 1 [] ∷ get_or s 2 [] ∷ get_or s 3 [] ∷ get_or s 4 [] ∷ get_or s 5 [] ∷ get_or s 6 [] ∷ get_or s 7 [] ∷ []
eight_of (a ∷ b ∷ c ∷ d ∷ e ∷ f ∷ g ∷ h ∷ []) size = refl
eight_of [] size = absurd (omega arith)
eight_of (a ∷ []) size = absurd (omega arith)
eight_of (a ∷ b ∷ []) size = absurd (omega arith)
eight_of (a ∷ b ∷ c ∷ []) size = absurd (omega arith)
eight_of (a ∷ b ∷ c ∷ d ∷ []) size = absurd (omega arith)
eight_of (a ∷ b ∷ c ∷ d ∷ e ∷ []) size = absurd (omega arith)
eight_of (a ∷ b ∷ c ∷ d ∷ e ∷ f ∷ []) size = absurd (omega arith)
eight_of (a ∷ b ∷ c ∷ d ∷ e ∷ f ∷ g ∷ []) size = absurd (omega arith)
eight_of (a ∷ b ∷ c ∷ d ∷ e ∷ f ∷ g ∷ h ∷ i ∷ s) size = absurd (omega arith)
