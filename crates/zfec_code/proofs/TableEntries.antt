-- What the tables hold, each by a test of all its entries.
use Rattle.std.proofs.Common.{◌≡◌, ℕ, zero, suc, ◌+◌, ◌-◌, ◌<◌, true, eqb, ltb, get_or, refl, sym, ap, subst, ◌∙◌, arith, zero-add}
use Rattle.std.proofs.lemmas.Bool.{eqb-true, ltb-true}
use Rattle.zfec_code.specs.Field.{product, power, polynomial_product, remainder}
use Rattle.zfec_code.specs.declared.tables.TheConstants.{POWERS, LOGARITHMS, INVERSES}
use Rattle.zfec_code.proofs.Cases.{passes_below, each_below}
use Rattle.zfec_code.proofs.Laws.{product_assoc, product-lt, product-one_left}

powers_test : passes_below 509 (λ i. eqb (get_or POWERS (i + 1) 0) (product 2 (get_or POWERS i 0))) ≡ true
unfolding product polynomial_product remainder
powers_test = refl

logarithms_test : passes_below 255 (λ i. eqb (get_or POWERS (get_or LOGARITHMS (i + 1) 0) 0) (i + 1)) ≡ true
logarithms_test = refl

logarithms_small : passes_below 256 (λ i. ltb (get_or LOGARITHMS i 0) 255) ≡ true
logarithms_small = refl

inverses_test : passes_below 255 (λ i. eqb (product (i + 1) (get_or INVERSES (i + 1) 0)) 1) ≡ true
unfolding product polynomial_product remainder
inverses_test = refl

pub inverse_entry : (a : ℕ) → 0 < a → a < 256 → product a (get_or INVERSES a 0) ≡ 1
inverse_entry a positive fits =
    let back : a - 1 + 1 ≡ a = omega arith in
    let entry : product (a - 1 + 1) (get_or INVERSES (a - 1 + 1) 0) ≡ 1 =
    eqb-true (product (a - 1 + 1) (get_or INVERSES (a - 1 + 1) 0)) 1 (each_below 255 (λ i. eqb (product (i + 1) (get_or INVERSES (i + 1) 0)) 1) inverses_test (a - 1) (omega arith)) in
    subst (λ x. product x (get_or INVERSES x 0) ≡ 1) back entry

pub power_entry : (i : ℕ) → i < 510 → get_or POWERS i 0 ≡ power i
unfolding power
power_entry zero h = refl
power_entry (suc i) h =
    let at : i + 1 ≡ suc i = omega arith in
    let entry : get_or POWERS (i + 1) 0 ≡ product 2 (get_or POWERS i 0) =
    eqb-true (get_or POWERS (i + 1) 0) (product 2 (get_or POWERS i 0)) (each_below 509 (λ j. eqb (get_or POWERS (j + 1) 0) (product 2 (get_or POWERS j 0))) powers_test i (omega arith)) in
    ap (λ x. get_or POWERS x 0) (sym at) ∙ entry ∙ ap (product 2) (power_entry i (omega arith))

pub power-lt : (n : ℕ) → power n < 256
unfolding power
power-lt zero = omega arith
power-lt (suc n) = product-lt 2 (power n)

pub power-add : (m n : ℕ) → product (power m) (power n) ≡ power (m + n)
unfolding power
power-add zero n = product-one_left (power n) (power-lt n) ∙ ap power (sym (zero-add n))
power-add (suc m) n =
    let at : suc (m + n) ≡ suc m + n = omega arith in
    product_assoc 2 (power m) (power n) ∙ ap (product 2) (power-add m n) ∙ ap power at

pub logarithm-lt : (a : ℕ) → a < 256 → get_or LOGARITHMS a 0 < 255
logarithm-lt a h = ltb-true (get_or LOGARITHMS a 0) 255 (each_below 256 (λ i. ltb (get_or LOGARITHMS i 0) 255) logarithms_small a h)

pub logarithm_entry : (a : ℕ) → 0 < a → a < 256 → power (get_or LOGARITHMS a 0) ≡ a
logarithm_entry a positive fits =
    let back : a - 1 + 1 ≡ a = omega arith in
    let entry : get_or POWERS (get_or LOGARITHMS (a - 1 + 1) 0) 0 ≡ a - 1 + 1 =
    eqb-true (get_or POWERS (get_or LOGARITHMS (a - 1 + 1) 0) 0) (a - 1 + 1) (each_below 255 (λ i. eqb (get_or POWERS (get_or LOGARITHMS (i + 1) 0) 0) (i + 1)) logarithms_test (a - 1) (omega arith)) in
    sym (power_entry (get_or LOGARITHMS a 0) (omega (arith, logarithm-lt a fits)))
    ∙ subst (λ x. get_or POWERS (get_or LOGARITHMS x 0) 0 ≡ x) back entry

-- the product of two bytes other than 0, by the tables
pub product_entry : (a b : ℕ) → 0 < a → 0 < b → a < 256 → b < 256
    → get_or POWERS (get_or LOGARITHMS a 0 + get_or LOGARITHMS b 0) 0 ≡ product a b
product_entry a b pa pb fa fb =
    let i : ℕ = get_or LOGARITHMS a 0 in
    let j : ℕ = get_or LOGARITHMS b 0 in
    let ki = logarithm-lt a fa in
    let kj = logarithm-lt b fb in
    power_entry (i + j) (omega arith) ∙ sym (power-add i j) ∙ ap (λ x. product x (power j)) (logarithm_entry a pa fa) ∙ ap (product a) (logarithm_entry b pb fb)
