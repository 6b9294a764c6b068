-- Different numbers that all stand in a list are no more than the list is long.
use Rattle.std.proofs.Common.{◌≡◌, ℕ, zero, suc, ◌<◌, ◌≤◌, ◌⊎◌, List, length, get_or, All, inl, inr, sym, ◌∙◌, arith}
use Rattle.std.proofs.lemmas.Bool.{cases_eq}
use Rattle.zfec_code.specs.Rows.{AreDistinct}
use Rattle.file_encoding.specs.Reading.{IsAmong}

-- the last number in place of one that is left out
abbrev pick : {P Q : Type 0} → P ⊎ Q → ℕ → ℕ → ℕ
pick (inl left_out) last own = last
pick (inr other) last own = own

module _ (n m : ℕ) (x y : ℕ → ℕ) (different : (i j : ℕ) → i < suc m → j < suc m → x i ≡ x j → i ≡ j)
    (each : (i : ℕ) → i < suc m → (p : ℕ) × (p < suc n) × (y p ≡ x i)) where
  before : (i : ℕ) → i < suc m → (x i ≡ y n → ⊥) → (p : ℕ) × (p < n) × (y p ≡ x i)
  before i low other =
      let found = each i low in
      elim (cases_eq found.0 n) [
        | inl last ↦ absurd (other (sym found.2 ∙ λ k. y (last k)))
        | inr inner ↦ (found.0, omega (arith, found.1, inner), found.2)
      ]

  stands : (i : ℕ) → i < m → (d : (x i ≡ y n) ⊎ (x i ≡ y n → ⊥)) → (p : ℕ) × (p < n) × (y p ≡ pick d (x m) (x i))
  stands i low (inl same) = before m (omega arith) (λ last. let e : i ≡ m = different i m (omega arith) (omega arith) (same ∙ sym last) in omega (arith, e))
  stands i low (inr other) = before i (omega arith) other

  apart : (i j : ℕ) → i < m → j < m → (d : (x i ≡ y n) ⊎ (x i ≡ y n → ⊥)) → (e : (x j ≡ y n) ⊎ (x j ≡ y n → ⊥))
      → pick d (x m) (x i) ≡ pick e (x m) (x j) → i ≡ j
  apart i j low under (inl a) (inl b) is = different i j (omega arith) (omega arith) (a ∙ sym b)
  apart i j low under (inl a) (inr b) is = let e : m ≡ j = different m j (omega arith) (omega arith) is in absurd (omega (arith, e))
  apart i j low under (inr a) (inl b) is = let e : i ≡ m = different i m (omega arith) (omega arith) is in absurd (omega (arith, e))
  apart i j low under (inr a) (inr b) is = different i j (omega arith) (omega arith) is

holes : (n m : ℕ) (x y : ℕ → ℕ) → ((i j : ℕ) → i < m → j < m → x i ≡ x j → i ≡ j)
    → ((i : ℕ) → i < m → (p : ℕ) × (p < n) × (y p ≡ x i)) → m ≤ n
holes n zero x y different each = omega arith
holes zero (suc m) x y different each = absurd (omega (arith, (each 0 (omega arith)).1))
holes (suc n) (suc m) x y different each =
    let less = holes n m (λ i. pick (cases_eq (x i) (y n)) (x m) (x i)) y
    (λ i j low under. apart n m x y different each i j low under (cases_eq (x i) (y n)) (cases_eq (x j) (y n)))
    (λ i low. stands n m x y different each i low (cases_eq (x i) (y n))) in
    omega (arith, less)

pub no_more : (xs ys : List ℕ) → AreDistinct xs → All (λ x. IsAmong x ys) xs → length xs ≤ length ys
no_more xs ys different each =
    holes (length ys) (length xs) (λ i. get_or xs i 0) (λ p. get_or ys p 0) different (λ i low. each i 0 low)
