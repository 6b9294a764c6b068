-- The first byte whose product with b is 1 is the one in the table of inverses.
use Rattle.std.proofs.Common.{◌≡◌, cond, ltb, ℕ, zero, suc, ◌+◌, ◌<◌, ◌≤◌, Bool, true, false, Option, Some, find, unwrap_or, sym, ap, refl, ◌∙◌, arith, inl, inr, nat_eq, get_or}
use Rattle.std.specs.List.{range_with_len}
use Rattle.std.proofs.lemmas.Bool.{cases_eq, eqb-true, ltb-true}
use Rattle.lemmas.proofs.Bools.{bool_cases}
use Rattle.zfec_code.specs.Field as field
use Rattle.zfec_code.specs.Field.{product}
use Rattle.zfec_code.specs.declared.tables.TheConstants.{INVERSES}
use Rattle.zfec_code.proofs.Cases.{each_below, passes_below}
use Rattle.zfec_code.proofs.Laws.{product_comm, product-one_left}
use Rattle.zfec_code.proofs.Inverses.{inverse, inverse-product, product-inverse_right}

-- what a search finds, where there is something to find
pub record IsFound (test : ℕ → Bool) (top : ℕ) (found : Option ℕ) : Type 0 where
  pub number : ℕ
  pub is : found ≡ Some number
  pub passes : test number ≡ true
  pub below : number < top

-- one more number in front, which does not pass
later : (test : ℕ → Bool) (a n : ℕ) (found : Option ℕ) → test a ≡ false → IsFound test (a + 1 + n) found
    → IsFound test (a + suc n) (cond (test a) (Some a) found)
later test a n found fails f = record {
  number = f.number;
  is = rw fails f.is;
  passes = f.passes;
  below = (let b = f.below in omega arith);
}

pub found_in_range : (test : ℕ → Bool) (n a c : ℕ) → a ≤ c → c < a + n → test c ≡ true → IsFound test (a + n) (find test (range_with_len a n))
found_in_range test zero a c low high is = absurd (omega arith)
found_in_range test (suc n) a c low high is =
    elim (bool_cases (test a)) [
      | inl here ↦ record { number = a; is = rw here refl; passes = here; below = omega arith }
      | inr fails ↦ elim (cases_eq a c) [
        | inl same ↦ (let bad : true ≡ false = sym is ∙ ap test (sym same) ∙ fails in cc)
        | inr differ ↦ later test a n (find test (range_with_len (a + 1) n)) fails
            (found_in_range test n (a + 1) c (omega arith) (omega arith) is)
      ]
    ]

bytes_test : passes_below 256 (λ i. ltb (get_or INVERSES i 0) 256) ≡ true
bytes_test = refl

inverse-byte : (b : ℕ) → b < 256 → inverse b < 256
unfolding inverse
inverse-byte b fits = ltb-true (get_or INVERSES b 0) 256 (each_below 256 (λ i. ltb (get_or INVERSES i 0) 256) bytes_test b fits)

-- the inverse of the field's definition
pub inverse-is : (b : ℕ) → 0 < b → b < 256 → field.inverse b ≡ inverse b
unfolding field.inverse
inverse-is b positive fits =
    let test : ℕ → Bool = λ c. nat_eq (product b c) 1 in
    let right = product-inverse_right b positive fits in
    let found = found_in_range test 256 0 (inverse b) (omega arith) (omega (arith, inverse-byte b fits)) (rw right refl) in
    let one : product b found.number ≡ 1 = eqb-true (product b found.number) 1 found.passes in
    ap (λ (o : Option ℕ). unwrap_or o 0) found.is
    ∙ sym (inverse-product b found.number positive fits found.below)
    ∙ ap (product (inverse b)) one ∙ product_comm (inverse b) 1 ∙ product-one_left (inverse b) (inverse-byte b fits)
