-- The numbers that a leaf needs: they rise, and each is the leaf's or that of a sibling.
use Rattle.std.proofs.Common.{◌≡◌, ℕ, zero, suc, ◌+◌, ◌-◌, ◌/◌, ◌%◌, ◌^◌, ◌<◌, ◌≤◌, length, get_or, inl, inr, ap, refl, sym, ◌∙◌, arith}
use Rattle.std.proofs.lemmas.Bool.{cases_eq, cases_lt}
use Rattle.std.proofs.lemmas.Nat.{pow_pos, shr_below}
use Rattle.std.proofs.Math.Nat.{pow-le-pow_right, pow-suc}
use Rattle.lemmas.proofs.Numbers.{next_power}
use Rattle.merkle.proofs.NumberLemmas.{length-needed_numbers, needed_above, needed_left, needed_right}
use Rattle.merkle.proofs.PathLemmas.{sibling_below}
use Rattle.merkle.specs.Tree.{needed_numbers, node_number, sibling, sibling_number}
use Rattle.file_encoding.proofs.BoundEntries.{AreNumbers}

-- a number is the leaf's own, or that of a sibling
pub data IsOnWay (m leaf number : ℕ) : Type 0 where
  own : number ≡ node_number m leaf → IsOnWay m leaf number
  beside : (i : ℕ) → i < m → number ≡ sibling_number m leaf i → IsOnWay m leaf number

pub on_way : (m leaf k : ℕ) → leaf < 2 ^ m → k < length (needed_numbers m leaf) → IsOnWay m leaf (get_or (needed_numbers m leaf) k 0)
on_way zero leaf zero inside below = own (omega arith)
on_way zero leaf (suc k) inside below = absurd (omega arith)
on_way (suc m) leaf k inside below =
    let size = length-needed_numbers (suc m) leaf in
    let whole : leaf / 1 ≡ leaf = omega arith in
    let top : suc m - 0 ≡ suc m = omega arith in
    elim (cases_lt k m) [
      | inl above ↦
          let i : ℕ = suc m - (k + 1) in
          let row : suc m - i ≡ k + 1 = omega arith in
          beside i (omega arith) (needed_above (suc m) leaf k (omega arith) ∙ ap (λ (r : ℕ). 2 ^ r - 1 + sibling (leaf / 2 ^ i)) (sym row))
      | inr last ↦ elim (cases_eq k m) [
        | inl left ↦ elim (cases_eq (leaf % 2) 0) [
          | inl even ↦ own (needed_left (suc m) leaf k (omega arith) ∙ omega (arith, even))
          | inr odd ↦
              let one : leaf % 2 ≡ 1 = omega arith in
              let other : sibling leaf ≡ leaf - 1 = rw one refl in
              beside 0 (omega arith) (needed_left (suc m) leaf k (omega arith) ∙ sym (rw (whole, other, top) (omega (arith, one))))
        ]
        | inr right ↦
            let here : k ≡ suc m = omega (arith, size) in
            elim (cases_eq (leaf % 2) 0) [
              | inl even ↦
                  let other : sibling leaf ≡ leaf + 1 = rw even refl in
                  beside 0 (omega arith) (needed_right (suc m) leaf k (omega arith) here ∙ sym (rw (whole, other, top) (omega (arith, even, pow_pos (suc m)))))
              | inr odd ↦ own (needed_right (suc m) leaf k (omega arith) here ∙ omega (arith, odd, pow_pos (suc m)))
            ]
      ]
    ]

-- a number stands in its row
low_is : (m leaf k : ℕ) → k < m → leaf < 2 ^ m → get_or (needed_numbers m leaf) k 0 + 1 < 2 ^ (k + 1) + 2 ^ (k + 1)
low_is zero leaf k low inside = absurd (omega arith)
low_is (suc m) leaf k low inside =
    let double = next_power (k + 1) in
    elim (cases_lt k m) [
      | inl above ↦
          let rows : ℕ = suc m - (k + 1) in
          let sum : k + 1 + rows ≡ suc m = omega arith in
          let within : leaf < 2 ^ (k + 1 + rows) = rw sum inside in
          let position = sibling_below (k + 1) (leaf / 2 ^ rows) (omega arith) (shr_below leaf (k + 1) rows within) in
          omega (arith, needed_above (suc m) leaf k (omega arith), position)
      | inr last ↦
          let here : k ≡ m = omega arith in
          let row : 2 ^ (k + 1) ≡ 2 ^ suc m = ap (λ (j : ℕ). 2 ^ j) (omega arith) in
          let half : 2 ^ suc m ≡ 2 ^ m + 2 ^ m = omega (arith, pow-suc 2 m) in
          omega (arith, needed_left (suc m) leaf k (omega arith), inside, row, half)
    ]

high_is : (m leaf k : ℕ) → k < m → leaf < 2 ^ m → 2 ^ (k + 1) ≤ get_or (needed_numbers m leaf) k 0 + 1
high_is zero leaf k low inside = absurd (omega arith)
high_is (suc m) leaf k low inside =
    elim (cases_lt k m) [
      | inl above ↦ omega (arith, needed_above (suc m) leaf k (omega arith), pow_pos (k + 1))
      | inr last ↦
          let row : 2 ^ (k + 1) ≡ 2 ^ suc m = ap (λ (j : ℕ). 2 ^ j) (omega arith) in
          omega (arith, needed_left (suc m) leaf k (omega arith), row, pow_pos (suc m))
    ]

pub needed_rise : (m leaf : ℕ) → leaf < 2 ^ m → (i j : ℕ) → i < j → j < length (needed_numbers m leaf)
    → get_or (needed_numbers m leaf) i 0 < get_or (needed_numbers m leaf) j 0
needed_rise zero leaf inside i j low below = absurd (omega (arith, low, below))
needed_rise (suc m) leaf inside i j low below =
    let size = length-needed_numbers (suc m) leaf in
    elim (cases_lt j (suc m)) [
      | inl above ↦
          let mine = low_is (suc m) leaf i (omega (arith, low, above)) inside in
          let yours = high_is (suc m) leaf j above inside in
          let double = next_power (i + 1) in
          let grow : 2 ^ (i + 1 + 1) ≤ 2 ^ (j + 1) = pow-le-pow_right {n = 2} (omega arith) {i = i + 1 + 1} {j = j + 1} (omega (arith, low)) in
          omega (arith, mine, yours, double, grow)
      | inr last ↦
          let here : j ≡ suc m = omega (arith, size, below, last) in
          let right = needed_right (suc m) leaf j (omega arith) here in
          elim (cases_eq i m) [
            | inl left ↦ omega (arith, right, needed_left (suc m) leaf i (omega (arith, left)))
            | inr deeper ↦
                let mine = low_is (suc m) leaf i (omega (arith, low, here)) inside in
                let double = next_power (i + 1) in
                let grow : 2 ^ (i + 1 + 1) ≤ 2 ^ suc m = pow-le-pow_right {n = 2} (omega arith) {i = i + 1 + 1} {j = suc m} (omega (arith, low, here, deeper)) in
                omega (arith, right, mine, double, grow)
          ]
    ]

pub needed_are_numbers : (m leaf : ℕ) → leaf < 2 ^ m → m ≤ 8 → AreNumbers (needed_numbers m leaf)
needed_are_numbers m leaf inside few = record {
  small = λ k below.
      let size = length-needed_numbers m leaf in
      let width = pow-le-pow_right {n = 2} (omega arith) {i = m} {j = 8} few in
      elim (on_way m leaf k inside below) [
        | own is ↦ omega (arith, is, inside, width)
        | beside i low is ↦
            let sum : m - i + i ≡ m = omega (arith, low) in
            let within : leaf < 2 ^ (m - i + i) = rw sum inside in
            let position = sibling_below (m - i) (leaf / 2 ^ i) (omega (arith, low)) (shr_below leaf (m - i) i within) in
            let row : 2 ^ (m - i) ≤ 2 ^ m = pow-le-pow_right {n = 2} (omega arith) {i = m - i} {j = m} (omega arith) in
            omega (arith, is, position, row, width)
      ];
  rising = needed_rise m leaf inside;
}
