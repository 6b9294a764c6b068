-- Each byte but 0 has an inverse, so a product of bytes is 0 only where one of them is.
use Rattle.std.proofs.Common.{◌≡◌, ℕ, ◌<◌, get_or, sym, ap, ◌∙◌, arith, bit_xor}
use Rattle.zfec_code.specs.Field.{product}
use Rattle.zfec_code.specs.declared.tables.TheConstants.{INVERSES}
use Rattle.zfec_code.proofs.Xor.{same_from_xor}
use Rattle.zfec_code.proofs.Laws.{product_comm, product_assoc, product-one_left, product-zero_right}
use Rattle.zfec_code.proofs.TableEntries.{inverse_entry}

unfoldable pub inverse : ℕ → ℕ
inverse a = get_or INVERSES a 0

pub product-inverse_right : (a : ℕ) → 0 < a → a < 256 → product a (inverse a) ≡ 1
unfolding inverse
product-inverse_right a = inverse_entry a

-- to multiply by the inverse undoes a product
pub inverse-product : (a b : ℕ) → 0 < a → a < 256 → b < 256 → product (inverse a) (product a b) ≡ b
inverse-product a b positive fits byte =
    sym (product_assoc (inverse a) a b)
    ∙ ap (λ x. product x b) (product_comm (inverse a) a ∙ product-inverse_right a positive fits)
    ∙ product-one_left b byte

pub zero_from_product : (a b : ℕ) → 0 < a → a < 256 → b < 256 → product a b ≡ 0 → b ≡ 0
zero_from_product a b positive fits byte e =
    sym (inverse-product a b positive fits byte) ∙ ap (product (inverse a)) e ∙ product-zero_right (inverse a)

pub product-positive : (a b : ℕ) → 0 < a → a < 256 → 0 < b → b < 256 → 0 < product a b
product-positive a b pa fa pb fb =
    let nonzero : product a b ≡ 0 → ⊥ = λ e. (let z : b ≡ 0 = zero_from_product a b pa fa fb e in omega arith) in
    omega arith

-- the difference of two bytes is 0 only where they are equal
pub difference-positive : (a b : ℕ) → (a ≡ b → ⊥) → 0 < bit_xor a b
difference-positive a b differ = omega (arith, λ (e : bit_xor a b ≡ 0). differ (same_from_xor a b e))
