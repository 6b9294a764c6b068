-- The points of the shares are 256 different bytes.
use Rattle.std.proofs.Common.{◌≡◌, ℕ, zero, suc, ◌<◌, get_or, sym, ap, ◌∙◌, arith, refl, true, ltb, eqb}
use Rattle.std.proofs.lemmas.Bool.{ltb-true, eqb-true}
use Rattle.zfec_code.specs.Field.{power, point_of}
use Rattle.zfec_code.specs.declared.tables.TheConstants.{POWERS, LOGARITHMS}
use Rattle.zfec_code.proofs.Cases.{passes_below, each_below}
use Rattle.zfec_code.proofs.TableEntries.{power_entry, power-lt}

positive_test : passes_below 255 (λ i. ltb 0 (get_or POWERS i 0)) ≡ true
positive_test = refl

exponents_test : passes_below 255 (λ i. eqb (get_or LOGARITHMS (get_or POWERS i 0) 0) i) ≡ true
exponents_test = refl

power-positive : (i : ℕ) → i < 255 → 0 < power i
power-positive i h =
    let entry : 0 < get_or POWERS i 0 = ltb-true 0 (get_or POWERS i 0) (each_below 255 (λ j. ltb 0 (get_or POWERS j 0)) positive_test i h) in
    omega (arith, power_entry i (omega arith))

exponent_of_power : (i : ℕ) → i < 255 → get_or LOGARITHMS (power i) 0 ≡ i
exponent_of_power i h =
    ap (λ x. get_or LOGARITHMS x 0) (sym (power_entry i (omega arith)))
    ∙ eqb-true (get_or LOGARITHMS (get_or POWERS i 0) 0) i (each_below 255 (λ j. eqb (get_or LOGARITHMS (get_or POWERS j 0) 0) j) exponents_test i h)

pub point-lt : (i : ℕ) → point_of i < 256
unfolding point_of
point-lt zero = omega arith
point-lt (suc i) = power-lt i

pub points_distinct : (i j : ℕ) → i < 256 → j < 256 → point_of i ≡ point_of j → i ≡ j
unfolding point_of
points_distinct zero zero hi hj e = refl
points_distinct zero (suc j) hi hj e = absurd (let p : 0 < power j = power-positive j (omega arith) in omega arith)
points_distinct (suc i) zero hi hj e = absurd (let p : 0 < power i = power-positive i (omega arith) in omega arith)
points_distinct (suc i) (suc j) hi hj e =
    ap suc (sym (exponent_of_power i (omega arith)) ∙ ap (λ x. get_or LOGARITHMS x 0) e ∙ exponent_of_power j (omega arith))
