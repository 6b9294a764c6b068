-- What holds of numbers.
use Rattle.std.proofs.Common.{◌≡◌, ℕ, ◌+◌, ◌*◌, ◌^◌, ◌<◌, ◌≤◌, false, true, nat_lt, bit_xor, ap, sym, ◌∙◌, arith, add-one, inl, inr}
use Rattle.std.specs.Prelude.{◌==◌}
use Rattle.std.specs.Int.{div_ceil}
use Rattle.std.proofs.Math.Nat.{pow-suc, mul-le-mul_right}
use Rattle.std.proofs.lemmas.Bool.{cases_lt}
use Rattle.std.proofs.lemmas.Bool.Decides.{nat_tests}
use Rattle.std.proofs.lemmas.Grind.{div_ceil_times}
use Rattle.std.proofs.lemmas.Nat.{pow_pos, xor_comm}
use lib.Bits.{xor_assoc, xor_block}

-- Twice a power of two is the next one.
pub next_power : (m : ℕ) → 2 ^ (m + 1) ≡ 2 ^ m + 2 ^ m
next_power m = rw add-one (omega (arith, pow-suc 2 m))

-- The test says no of a number that is not below.
pub lt_false : (a b : ℕ) → b ≤ a → nat_lt a b ≡ false
lt_false a b h = grind (arith, nat_tests)

-- The test says yes of one number alone.
pub same_number : (m n : ℕ) → (m == n) ≡ true → m ≡ n
same_number m n e = grind (arith, nat_tests)

-- More is rounded up to no less.
pub div_ceil_le : (m n k : ℕ) → 0 < k → m ≤ n → div_ceil m k ≤ div_ceil n k
div_ceil_le m n k some le =
    elim (cases_lt (div_ceil n k) (div_ceil m k)) [
      | inl above ↦ absurd (omega (arith, mul-le-mul_right {m = div_ceil n k + 1} {n = div_ceil m k} k (omega arith), (div_ceil_times m k some).1, (div_ceil_times n k some).0))
      | inr below ↦ below
    ]

-- A sum of four, with the middle two exchanged.
pub xor_exchange : (a b c d : ℕ) → bit_xor (bit_xor a b) (bit_xor c d) ≡ bit_xor (bit_xor a c) (bit_xor b d)
xor_exchange a b c d =
    xor_assoc a b (bit_xor c d)
    ∙ ap (bit_xor a) (sym (xor_assoc b c d) ∙ ap (λ x. bit_xor x d) (xor_comm b c) ∙ xor_assoc c b d)
    ∙ sym (xor_assoc a c (bit_xor b d))

-- Twice a sum is the sum of twice each.
pub double-xor : (x y : ℕ) → 2 * bit_xor x y ≡ bit_xor (2 * x) (2 * y)
double-xor x y =
    let e : bit_xor (x * 2 + 0) (y * 2 + 0) ≡ bit_xor x y * 2 + 0 = xor_block 1 x y 0 0 (pow_pos 1) (pow_pos 1) in
    let p : 2 * x ≡ x * 2 + 0 = omega arith in
    let q : 2 * y ≡ y * 2 + 0 = omega arith in
    let r : bit_xor x y * 2 + 0 ≡ 2 * bit_xor x y = omega arith in
    rw (p, q) (sym r ∙ sym e)
