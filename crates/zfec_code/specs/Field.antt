-- The field of 256 elements, as polynomials over the two elements 0 and 1 modulo x^8 + x^4 + x^3 +
-- x^2 + 1. Bit i of a number is the coefficient of x^i; the sum of two polynomials is `bit_xor`.
use Rattle.std.specs.Prelude.{ℕ, zero, suc, ◌+◌, ◌*◌, ◌/◌, ◌%◌, ◌^◌, ◌<◌, ◌≡◌, ◌==◌, bit_xor, find}
use Rattle.std.specs.Prelude.{unwrap_or, List, slice_index, EachIndex}
use Rattle.std.specs.Int.{bit_at}
use Rattle.std.specs.List.{range_with_len}

-- x^8 + x^4 + x^3 + x^2 + 1, which is 0x11D
abbrev pub modulus : ℕ
modulus = 285

-- the product of the polynomial of the n lowest coefficients of a, and of b
unfoldable pub polynomial_product : ℕ → ℕ → ℕ → ℕ
polynomial_product zero a b = 0
polynomial_product (suc n) a b = bit_xor (a % 2 * b) (2 * polynomial_product n (a / 2) b)

-- the remainder by the modulus of a polynomial of at most n + 8 coefficients: from the highest
-- coefficient down, the shifted modulus is taken away where the coefficient is 1
unfoldable pub remainder : ℕ → ℕ → ℕ
remainder zero p = p
remainder (suc n) p = remainder n (bit_xor p (bit_at p (n + 8) * (2 ^ n * modulus)))

-- the product of two bytes in the field
unfoldable pub product : ℕ → ℕ → ℕ
product a b = remainder 7 (polynomial_product 8 (a % 256) (b % 256))

-- the byte whose product with b is 1, and 0 for 0, which has none
unfoldable pub inverse : ℕ → ℕ
inverse b = unwrap_or (find (λ c. product b c == 1) (range_with_len 0 256)) 0

-- the powers of x, whose number is 2
unfoldable pub power : ℕ → ℕ
power zero = 1
power (suc n) = product 2 (power n)

-- the point of number i of the erasure code: 0, 1, x, x^2, ..
unfoldable pub point_of : ℕ → ℕ
point_of zero = 0
point_of (suc i) = power i

-- each byte of the new list is the old one plus c times the byte of `source` at its position
abbrev pub AddsMultiple : List ℕ → List ℕ → List ℕ → ℕ → Type 0
AddsMultiple old new source c = EachIndex new
    (λ k. slice_index new k ≡ bit_xor (slice_index old k) (product c (slice_index source k)))

-- the same with three sources: each byte of the new list is the old one plus `factors` times the
-- sources' bytes at its position
abbrev pub AddsThreeMultiples : List ℕ → List ℕ → List ℕ → List ℕ → List ℕ → List ℕ → Type 0
AddsThreeMultiples old new x y z factors =
    EachIndex new (λ k.
    slice_index new k
    ≡ bit_xor (bit_xor
    (bit_xor (slice_index old k) (product (slice_index factors 0) (slice_index x k)))
    (product (slice_index factors 1) (slice_index y k)))
    (product (slice_index factors 2) (slice_index z k)))

-- r is the remainder of the polynomial p by the modulus: r has degree below 8, and p is a multiple
-- of the modulus and r
pub record IsRemainder (p r : ℕ) : Type 0 where
  pub degree : r < 256
  pub quotient : ℕ
  pub multiple : p ≡ bit_xor (polynomial_product 8 quotient modulus) r
