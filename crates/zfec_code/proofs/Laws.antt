-- The laws of the field: the product is commutative and associative, it distributes over `bit_xor`, and 1 is its unit.
use Rattle.std.proofs.Common.{◌≡◌, ℕ, ◌%◌, ◌^◌, ◌<◌, true, eqb, bit_xor, refl, sym, ap, ◌∙◌, arith, pow_pos, mod-lt}
use Rattle.std.proofs.lemmas.Bool.{eqb-true}
use lib.Bits.{xor_self, xor_mod}
use Rattle.zfec_code.specs.Field.{product, polynomial_product, remainder}
use Rattle.zfec_code.proofs.Additive.{product-xor_left, product-xor_right, same_from_basis, same_from_test, agree_on_basis_pairs}
use Rattle.zfec_code.proofs.Cases.{passes_below, each_below}

-- only the eight lowest coefficients count
pub product-mod_left : (a b : ℕ) → product (a % 256) b ≡ product a b
unfolding product
product-mod_left a b = let p : a % 256 % 256 ≡ a % 256 = omega arith in rw p

pub product-mod_right : (a b : ℕ) → product a (b % 256) ≡ product a b
unfolding product
product-mod_right a b = let p : b % 256 % 256 ≡ b % 256 = omega arith in rw p

byte : (a : ℕ) → a % 256 < 256
byte a = mod-lt a (pow_pos 8)

commutes : agree_on_basis_pairs product (λ a b. product b a) ≡ true
unfolding product polynomial_product remainder
commutes = refl

pub product_comm : (a b : ℕ) → product a b ≡ product b a
product_comm a b =
    let bytes : product (a % 256) (b % 256) ≡ product (b % 256) (a % 256) =
    same_from_test product (λ x y. product y x) product-xor_left product-xor_right (λ x y z. product-xor_right z x y) (λ x y z. product-xor_left y z x) commutes
    (a % 256) (b % 256) (byte a) (byte b) in
    sym (product-mod_left a b) ∙ sym (product-mod_right (a % 256) b) ∙ bytes ∙ product-mod_left b (a % 256) ∙ product-mod_right b a

associates : passes_below 8 (λ k. agree_on_basis_pairs (λ a b. product (product a b) (2 ^ k)) (λ a b. product a (product b (2 ^ k)))) ≡ true
unfolding product polynomial_product remainder
associates = refl

associates_left : (a b c d : ℕ) → product (product (bit_xor a b) c) d ≡ bit_xor (product (product a c) d) (product (product b c) d)
associates_left a b c d = ap (λ x. product x d) (product-xor_left a b c) ∙ product-xor_left (product a c) (product b c) d

associates_right : (a b c d : ℕ) → product a (product (bit_xor b c) d) ≡ bit_xor (product a (product b d)) (product a (product c d))
associates_right a b c d = ap (product a) (product-xor_left b c d) ∙ product-xor_right a (product b d) (product c d)

bytes_associate : (a b c : ℕ) → a < 256 → b < 256 → c < 256 → product (product a b) c ≡ product a (product b c)
bytes_associate a b c ha hb =
    same_from_basis (product (product a b)) (λ z. product a (product b z)) (product-xor_right (product a b))
    (λ y z. ap (product a) (product-xor_right b y z) ∙ product-xor_right a (product b y) (product b z)) 8
    (λ k hk.
    same_from_test (λ x y. product (product x y) (2 ^ k)) (λ x y. product x (product y (2 ^ k)))
    (λ x y z. associates_left x y z (2 ^ k))
    (λ x y z. ap (λ w. product w (2 ^ k)) (product-xor_right x y z) ∙ product-xor_left (product x y) (product x z) (2 ^ k))
    (λ x y z. product-xor_left x y (product z (2 ^ k)))
    (λ x y z. associates_right x y z (2 ^ k))
    (each_below 8 (λ i. agree_on_basis_pairs (λ x y. product (product x y) (2 ^ i)) (λ x y. product x (product y (2 ^ i)))) associates k hk)
    a b ha hb)
    c

pub product_assoc : (a b c : ℕ) → product (product a b) c ≡ product a (product b c)
product_assoc a b c =
    let left : product (product (a % 256) (b % 256)) (c % 256) ≡ product (product a b) c =
    product-mod_right (product (a % 256) (b % 256)) c ∙ ap (λ x. product x c) (product-mod_left a (b % 256) ∙ product-mod_right a b) in
    let right : product (a % 256) (product (b % 256) (c % 256)) ≡ product a (product b c) =
    product-mod_left a (product (b % 256) (c % 256)) ∙ ap (product a) (product-mod_left b (c % 256) ∙ product-mod_right b c) in
    sym left ∙ bytes_associate (a % 256) (b % 256) (c % 256) (byte a) (byte b) (byte c) ∙ right

pub product_left_comm : (a b c : ℕ) → product a (product b c) ≡ product b (product a c)
product_left_comm a b c = sym (product_assoc a b c) ∙ ap (λ x. product x c) (product_comm a b) ∙ product_assoc b a c

bounded : agree_on_basis_pairs (λ a b. product a b % 256) product ≡ true
unfolding product polynomial_product remainder
bounded = refl

pub product-lt : (a b : ℕ) → product a b < 256
product-lt a b =
    let same : product (a % 256) (b % 256) % 256 ≡ product (a % 256) (b % 256) =
    same_from_test (λ x y. product x y % 256) product
    (λ x y z. ap (λ w. w % 256) (product-xor_left x y z) ∙ xor_mod (product x z) (product y z) 8)
    (λ x y z. ap (λ w. w % 256) (product-xor_right x y z) ∙ xor_mod (product x y) (product x z) 8)
    product-xor_left product-xor_right bounded (a % 256) (b % 256) (byte a) (byte b) in
    let whole : product (a % 256) (b % 256) ≡ product a b = product-mod_left a (b % 256) ∙ product-mod_right a b in
    omega (arith, byte (product (a % 256) (b % 256)))

units : passes_below 8 (λ i. eqb (product 1 (2 ^ i)) (2 ^ i)) ≡ true
unfolding product polynomial_product remainder
units = refl

pub product-one_left : (a : ℕ) → a < 256 → product 1 a ≡ a
product-one_left =
    same_from_basis (product 1) (λ a. a) (product-xor_right 1) (λ a b. refl) 8
    (λ i h. eqb-true (product 1 (2 ^ i)) (2 ^ i) (each_below 8 (λ j. eqb (product 1 (2 ^ j)) (2 ^ j)) units i h))

pub product-zero_left : (a : ℕ) → product 0 a ≡ 0
product-zero_left a = product-xor_left 0 0 a ∙ xor_self (product 0 a)

pub product-zero_right : (a : ℕ) → product a 0 ≡ 0
product-zero_right a = product-xor_right a 0 0 ∙ xor_self (product a 0)
