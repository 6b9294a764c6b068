-- The product is the remainder of the polynomial product, in the relational sense.
use Rattle.std.proofs.Common.{◌≡◌, ℕ, zero, suc, ◌+◌, ◌*◌, ◌/◌, ◌%◌, ◌^◌, ◌<◌, ◌≤◌, true, eqb, bit_xor, refl, sym, ap, ◌∙◌, arith, subst, pow_pos, mod-lt}
use Rattle.std.proofs.Math.Pow.{pow_mono}
use Rattle.std.proofs.Math.Nat.{pow-suc}
use Rattle.std.specs.Int.{bit_at}
use Rattle.std.proofs.lemmas.Bool.{eqb-true}
use Rattle.lemmas.proofs.Numbers.{xor_exchange}
use lib.Bits.{xor_lt}
use Rattle.zfec_code.specs.Field.{product, remainder, polynomial_product, modulus, IsRemainder}
use Rattle.zfec_code.proofs.Cases.{passes_below, each_below}
use Rattle.zfec_code.proofs.Xor.{bits_times, bit_at-xor}
use Rattle.zfec_code.proofs.Additive.{polynomial_product-xor_left, remainder-xor, same_from_basis}
use Rattle.zfec_code.proofs.Laws.{product-lt}

-- the quotient of long division, whose digits are the coefficients at which `remainder` takes the modulus away
quotient : ℕ → ℕ → ℕ
quotient zero p = 0
quotient (suc n) p = bit_xor (bit_at p (n + 8) * 2 ^ n) (quotient n (bit_xor p (bit_at p (n + 8) * (2 ^ n * modulus))))

quotient-xor : (n p q : ℕ) → quotient n (bit_xor p q) ≡ bit_xor (quotient n p) (quotient n q)
unfolding quotient
quotient-xor zero p q = refl
quotient-xor (suc n) p q =
    let m : ℕ = 2 ^ n * modulus in
    let s : ℕ = bit_at p (n + 8) in
    let t : ℕ = bit_at q (n + 8) in
    let hs : s < 2 = mod-lt (p / 2 ^ (n + 8)) (pow_pos 1) in
    let ht : t < 2 = mod-lt (q / 2 ^ (n + 8)) (pow_pos 1) in
    let step : bit_xor (bit_xor p q) (bit_at (bit_xor p q) (n + 8) * m) ≡ bit_xor (bit_xor p (s * m)) (bit_xor q (t * m)) =
    rw (bit_at-xor p q (n + 8), bits_times s t m hs ht) (xor_exchange p q (s * m) (t * m)) in
    let digit : bit_at (bit_xor p q) (n + 8) * 2 ^ n ≡ bit_xor (s * 2 ^ n) (t * 2 ^ n) =
    rw (bit_at-xor p q (n + 8)) (bits_times s t (2 ^ n) hs ht) in
    (λ i. bit_xor (digit i) (quotient n (step i)))
    ∙ ap (bit_xor (bit_xor (s * 2 ^ n) (t * 2 ^ n))) (quotient-xor n (bit_xor p (s * m)) (bit_xor q (t * m)))
    ∙ xor_exchange (s * 2 ^ n) (t * 2 ^ n) (quotient n (bit_xor p (s * m))) (quotient n (bit_xor q (t * m)))

divides_test : passes_below 15 (λ i. eqb (bit_xor (polynomial_product 8 (quotient 7 (2 ^ i)) modulus) (remainder 7 (2 ^ i))) (2 ^ i)) ≡ true
unfolding quotient polynomial_product remainder
divides_test = refl

division : (p : ℕ) → p < 2 ^ 15 → bit_xor (polynomial_product 8 (quotient 7 p) modulus) (remainder 7 p) ≡ p
division =
    same_from_basis (λ p. bit_xor (polynomial_product 8 (quotient 7 p) modulus) (remainder 7 p)) (λ p. p)
    (λ p q.
    (λ i. bit_xor ((ap (λ x. polynomial_product 8 x modulus) (quotient-xor 7 p q) ∙ polynomial_product-xor_left 8 (quotient 7 p) (quotient 7 q) modulus) i) (remainder-xor 7 p q i))
    ∙ xor_exchange (polynomial_product 8 (quotient 7 p) modulus) (polynomial_product 8 (quotient 7 q) modulus) (remainder 7 p) (remainder 7 q))
    (λ p q. refl) 15
    (λ i h. eqb-true (bit_xor (polynomial_product 8 (quotient 7 (2 ^ i)) modulus) (remainder 7 (2 ^ i))) (2 ^ i) (each_below 15 (λ j. eqb (bit_xor (polynomial_product 8 (quotient 7 (2 ^ j)) modulus) (remainder 7 (2 ^ j))) (2 ^ j)) divides_test i h))

bit_times-le : (t b : ℕ) → t < 2 → t * b ≤ b
bit_times-le zero b h = let e : 0 * b ≡ 0 = omega arith in omega arith
bit_times-le (suc zero) b h = let e : 1 * b ≡ b = omega arith in omega arith
bit_times-le (suc (suc t)) b h = absurd (omega arith)

-- a product of n coefficients by a byte has at most n + 7
polynomial_product-lt : (n a b : ℕ) → b < 256 → polynomial_product n a b < 2 ^ (n + 7)
unfolding polynomial_product
polynomial_product-lt zero a b h = pow_pos 7
polynomial_product-lt (suc n) a b h =
    let e : suc n + 7 ≡ suc (n + 7) = omega arith in
    let first : a % 2 * b ≤ b = bit_times-le (a % 2) b (mod-lt a (pow_pos 1)) in
    let room : 2 ^ 8 ≤ 2 ^ suc (n + 7) = pow_mono (let le : 8 ≤ suc (n + 7) = omega arith in le) in
    let rest : polynomial_product n (a / 2) b < 2 ^ (n + 7) = polynomial_product-lt n (a / 2) b h in
    let small : a % 2 * b < 2 ^ suc (n + 7) = omega arith in
    let double : 2 * polynomial_product n (a / 2) b < 2 ^ suc (n + 7) = omega (arith, pow-suc 2 (n + 7)) in
    subst (λ k. bit_xor (a % 2 * b) (2 * polynomial_product n (a / 2) b) < 2 ^ k) (sym e)
    (xor_lt (suc (n + 7)) (a % 2 * b) (2 * polynomial_product n (a / 2) b) small double)

pub product_is_remainder : (a b : ℕ) → a < 256 → b < 256 → IsRemainder (polynomial_product 8 a b) (product a b)
unfolding product
product_is_remainder a b ha hb =
    let la : a % 256 ≡ a = omega arith in
    let lb : b % 256 ≡ b = omega arith in
    let same : polynomial_product 8 (a % 256) (b % 256) ≡ polynomial_product 8 a b = rw (la, lb) in
    record {
      degree = product-lt a b;
      quotient = quotient 7 (polynomial_product 8 a b);
      multiple = sym (division (polynomial_product 8 a b) (polynomial_product-lt 8 a b hb)) ∙ ap (λ p. bit_xor (polynomial_product 8 (quotient 7 (polynomial_product 8 a b)) modulus) (remainder 7 p)) (sym same);
    }
