-- Numbers in a row.
use Rattle.lemmas.proofs.Ranges.{range_more}
use Rattle.std.proofs.Common.{◌≡◌, ◌∙◌, ℕ, ◌+◌, List, [], ◌∷◌, ◌++◌, Bool, cond, filter, ap, arith}
use Rattle.std.specs.List.{range_with_len}
use Rattle.std.proofs.lemmas.List.Elements.{filter-append}

-- the next number is one of those that pass a test, or is not
pub more : (p : ℕ → Bool) (n : ℕ) (b : Bool) → p n ≡ b
    → filter p (range_with_len 0 (n + 1))
    ≡ filter p (range_with_len 0 n) ++ cond b (n ∷ []) []
more p n b is =
    let here : 0 + n ≡ n = omega arith in
    ap (filter p)
    (range_more 0 n ∙ ap (λ (k : ℕ). range_with_len 0 n ++ k ∷ []) here)
    ∙ filter-append p (range_with_len 0 n) (n ∷ [])
    ∙ ap (λ (b : Bool). filter p (range_with_len 0 n) ++ cond b (n ∷ []) []) is
