-- The product of polynomials and the remainder are additive, so that an equation of additive functions is true of all
-- bytes where it is true of the eight powers of two.
use Rattle.std.proofs.Common.{◌≡◌, ℕ, zero, suc, ◌+◌, ◌*◌, ◌/◌, ◌%◌, ◌^◌, ◌<◌, Bool, true, eqb, bit_xor, refl, sym, ap, subst, ◌∙◌, arith, pow_pos, mod-lt}
use Rattle.std.specs.Int.{bit_at}
use lib.Bits.{xor_self, xor_shr, xor_mod, xor_shifted}
use lib.Pow.{split}
use Rattle.std.proofs.Math.Nat.{pow-suc, div-lt_iff_lt-mul}
use Rattle.zfec_code.specs.Field.{product, remainder, polynomial_product, modulus}
use Rattle.std.proofs.lemmas.Bool.{eqb-true}
use Rattle.lemmas.proofs.Numbers.{xor_exchange, double-xor}
use Rattle.zfec_code.proofs.Cases.{passes_below, each_below}
use Rattle.zfec_code.proofs.Xor.{bit_times-xor, bits_times, bit_at-xor}

bit_lt : (n : ℕ) → n % 2 < 2
bit_lt n = mod-lt n (pow_pos 1)

pub polynomial_product-xor_right : (n a b c : ℕ) → polynomial_product n a (bit_xor b c) ≡ bit_xor (polynomial_product n a b) (polynomial_product n a c)
unfolding polynomial_product
polynomial_product-xor_right zero a b c = refl
polynomial_product-xor_right (suc n) a b c =
    rw (bit_times-xor (a % 2) b c (bit_lt a), polynomial_product-xor_right n (a / 2) b c, double-xor (polynomial_product n (a / 2) b) (polynomial_product n (a / 2) c))
    (xor_exchange (a % 2 * b) (a % 2 * c) (2 * polynomial_product n (a / 2) b) (2 * polynomial_product n (a / 2) c))

pub polynomial_product-xor_left : (n a b c : ℕ) → polynomial_product n (bit_xor a b) c ≡ bit_xor (polynomial_product n a c) (polynomial_product n b c)
unfolding polynomial_product
polynomial_product-xor_left zero a b c = refl
polynomial_product-xor_left (suc n) a b c =
    let low : bit_xor a b % 2 ≡ bit_xor (a % 2) (b % 2) = xor_mod a b 1 in
    let high : bit_xor a b / 2 ≡ bit_xor (a / 2) (b / 2) = xor_shr a b 1 in
    rw (low, high, bits_times (a % 2) (b % 2) c (bit_lt a) (bit_lt b), polynomial_product-xor_left n (a / 2) (b / 2) c, double-xor (polynomial_product n (a / 2) c) (polynomial_product n (b / 2) c))
    (xor_exchange (a % 2 * c) (b % 2 * c) (2 * polynomial_product n (a / 2) c) (2 * polynomial_product n (b / 2) c))

pub remainder-xor : (n p q : ℕ) → remainder n (bit_xor p q) ≡ bit_xor (remainder n p) (remainder n q)
unfolding remainder
remainder-xor zero p q = refl
remainder-xor (suc n) p q =
    let m : ℕ = 2 ^ n * modulus in
    let s : ℕ = bit_at p (n + 8) in
    let t : ℕ = bit_at q (n + 8) in
    let step : bit_xor (bit_xor p q) (bit_at (bit_xor p q) (n + 8) * m) ≡ bit_xor (bit_xor p (s * m)) (bit_xor q (t * m)) =
    rw (bit_at-xor p q (n + 8), bits_times s t m (bit_lt (p / 2 ^ (n + 8))) (bit_lt (q / 2 ^ (n + 8)))) (xor_exchange p q (s * m) (t * m)) in
    ap (remainder n) step ∙ remainder-xor n (bit_xor p (s * m)) (bit_xor q (t * m))

pub product-xor_right : (a b c : ℕ) → product a (bit_xor b c) ≡ bit_xor (product a b) (product a c)
unfolding product
product-xor_right a b c =
    let low : bit_xor b c % 256 ≡ bit_xor (b % 256) (c % 256) = xor_mod b c 8 in
    rw (low, polynomial_product-xor_right 8 (a % 256) (b % 256) (c % 256))
    (remainder-xor 7 (polynomial_product 8 (a % 256) (b % 256)) (polynomial_product 8 (a % 256) (c % 256)))

pub product-xor_left : (a b c : ℕ) → product (bit_xor a b) c ≡ bit_xor (product a c) (product b c)
unfolding product
product-xor_left a b c =
    let low : bit_xor a b % 256 ≡ bit_xor (a % 256) (b % 256) = xor_mod a b 8 in
    rw (low, polynomial_product-xor_left 8 (a % 256) (b % 256) (c % 256))
    (remainder-xor 7 (polynomial_product 8 (a % 256) (c % 256)) (polynomial_product 8 (b % 256) (c % 256)))

module _ (f g : ℕ → ℕ) (fx : (a b : ℕ) → f (bit_xor a b) ≡ bit_xor (f a) (f b)) (gx : (a b : ℕ) → g (bit_xor a b) ≡ bit_xor (g a) (g b)) where
  same_at_zero : f 0 ≡ g 0
  same_at_zero = fx 0 0 ∙ xor_self (f 0) ∙ sym (xor_self (g 0)) ∙ sym (gx 0 0)

  same_top : (n t : ℕ) → t < 2 → f (2 ^ n) ≡ g (2 ^ n) → f (t * 2 ^ n) ≡ g (t * 2 ^ n)
  same_top n zero h e = let p : 0 * 2 ^ n ≡ 0 = omega arith in rw p same_at_zero
  same_top n (suc zero) h e = let p : 1 * 2 ^ n ≡ 2 ^ n = omega arith in rw p e
  same_top n (suc (suc t)) h e = absurd (omega arith)

  pub same_from_basis : (n : ℕ) → ((i : ℕ) → i < n → f (2 ^ i) ≡ g (2 ^ i)) → (a : ℕ) → a < 2 ^ n → f a ≡ g a
  same_from_basis zero basis a h = let p : a ≡ 0 = omega arith in rw p same_at_zero
  same_from_basis (suc n) basis a h =
      let t : ℕ = a / 2 ^ n in
      let r : ℕ = a % 2 ^ n in
      let small : r < 2 ^ n = mod-lt a (pow_pos n) in
      let bit : t < 2 = (div-lt_iff_lt-mul (pow_pos n)).1 (omega (arith, pow-suc 2 n)) in
      let parts : bit_xor (t * 2 ^ n) r ≡ a = xor_shifted t n r small ∙ split a n in
      let top : f (t * 2 ^ n) ≡ g (t * 2 ^ n) = same_top n t bit (basis n (omega arith)) in
      let low : f r ≡ g r = same_from_basis n (λ i k. basis i (omega arith)) r small in
      subst (λ x. f x ≡ g x) parts (fx (t * 2 ^ n) r ∙ (λ i. bit_xor (top i) (low i)) ∙ sym (gx (t * 2 ^ n) r))

-- the two functions agree on all pairs of powers of two, as a test that is computed
abbrev pub agree_on_basis_pairs : (ℕ → ℕ → ℕ) → (ℕ → ℕ → ℕ) → Bool
agree_on_basis_pairs f g = passes_below 8 (λ i. passes_below 8 (λ j. eqb (f (2 ^ i) (2 ^ j)) (g (2 ^ i) (2 ^ j))))

-- the same of functions of two bytes
module _ (f g : ℕ → ℕ → ℕ)
    (fl : (a b c : ℕ) → f (bit_xor a b) c ≡ bit_xor (f a c) (f b c)) (fr : (a b c : ℕ) → f a (bit_xor b c) ≡ bit_xor (f a b) (f a c))
    (gl : (a b c : ℕ) → g (bit_xor a b) c ≡ bit_xor (g a c) (g b c)) (gr : (a b c : ℕ) → g a (bit_xor b c) ≡ bit_xor (g a b) (g a c)) where
  pub same_from_basis_pairs : ((i j : ℕ) → i < 8 → j < 8 → f (2 ^ i) (2 ^ j) ≡ g (2 ^ i) (2 ^ j)) → (a b : ℕ) → a < 256 → b < 256 → f a b ≡ g a b
  same_from_basis_pairs basis a b ha hb =
      same_from_basis (λ x. f x b) (λ x. g x b) (λ x y. fl x y b) (λ x y. gl x y b) 8
      (λ i hi. same_from_basis (f (2 ^ i)) (g (2 ^ i)) (fr (2 ^ i)) (gr (2 ^ i)) 8 (λ j hj. basis i j hi hj) b hb) a ha

  pub same_from_test : agree_on_basis_pairs f g ≡ true → (a b : ℕ) → a < 256 → b < 256 → f a b ≡ g a b
  same_from_test h =
      same_from_basis_pairs (λ i j hi hj.
      eqb-true (f (2 ^ i) (2 ^ j)) (g (2 ^ i) (2 ^ j))
      (each_below 8 (λ y. eqb (f (2 ^ i) (2 ^ y)) (g (2 ^ i) (2 ^ y)))
      (each_below 8 (λ x. passes_below 8 (λ y. eqb (f (2 ^ x) (2 ^ y)) (g (2 ^ x) (2 ^ y)))) h i hi) j hj))
