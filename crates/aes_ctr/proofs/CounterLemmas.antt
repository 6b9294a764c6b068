-- Sixteen counters that differ in their four lowest bits.
use Rattle.std.proofs.Common.{◌≡◌, ℕ, zero, suc, ◌+◌, ◌*◌, ◌/◌, ◌%◌, ◌^◌, ◌<◌, List, [], ◌∷◌, ◌++◌, length, get_or, map, max, replicate, bit_or, refl, sym, ap, subst, ◌∙◌, arith, inl, inr}
use Rattle.std.specs.Int.{w128, bit_at, bytes_high_first, to_be_bytes}
use Rattle.std.proofs.lemmas.Bool.{cases_lt}
use Rattle.std.specs.List.{range_with_len}
use Rattle.std.proofs.lemmas.Nat.Bits.{bit_at_or, bit_at-zero}
use Rattle.lemmas.proofs.Eights.{by_eight}
use lib.Lanes.{zip2}
use Rattle.aes_ctr.specs.Slices.{AreSlices, bit_in, block_in}
use Rattle.aes_ctr.proofs.Bytes.{at_below, bits_of_block, is_block}
use Rattle.aes_ctr.proofs.SliceLemmas.{lane, long_both}
use Rattle.aes_ctr.proofs.TransposeLemmas.{are_slices, eight}

-- two lists that differ in their last number
but_last : (ys : List ℕ) (y z p : ℕ) → p < length ys → get_or (ys ++ y ∷ []) p 0 ≡ get_or (ys ++ z ∷ []) p 0
but_last [] y z p below = absurd (omega arith)
but_last (x ∷ ys) y z zero below = refl
but_last (x ∷ ys) y z (suc p) below = but_last ys y z p (omega arith)

-- the bytes of a number of 64 bits but the last
abbrev pub high_bytes : ℕ → List ℕ
high_bytes n = 0 ∷ 0 ∷ 0 ∷ 0 ∷ 0 ∷ 0 ∷ 0 ∷ 0 ∷ n / 256 ^ 7 % 256 ∷ n / 256 ^ 6 % 256 ∷ n / 256 ^ 5 % 256 ∷ n / 256 ^ 4 % 256 ∷ n / 256 ^ 3 % 256 ∷ n / 256 ^ 2 % 256 ∷ n / 256 % 256 ∷ []

-- a counter that differs from another in its last byte alone
pub counter_bytes : (n j : ℕ) → n + j < 2 ^ 64 → (n + j) / 256 ≡ n / 256 → high_bytes n ++ ((n + j) % 256) ∷ [] ≡ to_be_bytes w128 (n + j)
counter_bytes n j fits same =
    let b0 : 0 ≡ (n + j) / 256 ^ 15 % 256 = omega arith in
    let b1 : 0 ≡ (n + j) / 256 ^ 14 % 256 = omega arith in
    let b2 : 0 ≡ (n + j) / 256 ^ 13 % 256 = omega arith in
    let b3 : 0 ≡ (n + j) / 256 ^ 12 % 256 = omega arith in
    let b4 : 0 ≡ (n + j) / 256 ^ 11 % 256 = omega arith in
    let b5 : 0 ≡ (n + j) / 256 ^ 10 % 256 = omega arith in
    let b6 : 0 ≡ (n + j) / 256 ^ 9 % 256 = omega arith in
    let b7 : 0 ≡ (n + j) / 256 ^ 8 % 256 = omega arith in
    let b8 : n / 256 ^ 7 % 256 ≡ (n + j) / 256 ^ 7 % 256 = omega arith in
    let b9 : n / 256 ^ 6 % 256 ≡ (n + j) / 256 ^ 6 % 256 = omega arith in
    let b10 : n / 256 ^ 5 % 256 ≡ (n + j) / 256 ^ 5 % 256 = omega arith in
    let b11 : n / 256 ^ 4 % 256 ≡ (n + j) / 256 ^ 4 % 256 = omega arith in
    let b12 : n / 256 ^ 3 % 256 ≡ (n + j) / 256 ^ 3 % 256 = omega arith in
    let b13 : n / 256 ^ 2 % 256 ≡ (n + j) / 256 ^ 2 % 256 = omega arith in
    let b14 : n / 256 % 256 ≡ (n + j) / 256 % 256 = omega arith in
    λ i. b0 i ∷ b1 i ∷ b2 i ∷ b3 i ∷ b4 i ∷ b5 i ∷ b6 i ∷ b7 i ∷ b8 i ∷ b9 i ∷ b10 i ∷ b11 i ∷ b12 i ∷ b13 i ∷ b14 i ∷ (n + j) % 256 ∷ []

small_bytes : (k n p : ℕ) → get_or (bytes_high_first k n) p 0 < 256
small_bytes zero n p = omega arith
small_bytes (suc zero) n zero = omega arith
small_bytes (suc (suc k)) n zero = omega arith
small_bytes (suc k) n (suc p) = small_bytes k n p

-- what is set in the last byte of half h of slice i: bit b, where bit i of 2 * b + h is set
abbrev pub counts : ℕ → ℕ → ℕ
counts zero h = 255 * h
counts (suc zero) h = 170
counts (suc (suc zero)) h = 204
counts (suc (suc (suc zero))) h = 240
counts (suc (suc (suc (suc i)))) h = 0

-- these are the bits of j at block j's position, as trying each j tells
counts_tried : (i : ℕ) → i < 4 → map (λ j. bit_at (counts i (j % 2)) (j / 2)) (range_with_len 0 16) ≡ map (λ j. bit_at j i) (range_with_len 0 16)
counts_tried zero low = refl
counts_tried (suc zero) low = refl
counts_tried (suc (suc zero)) low = refl
counts_tried (suc (suc (suc zero))) low = refl
counts_tried (suc (suc (suc (suc i)))) low = absurd (omega arith)

counts_are : (i j : ℕ) → i < 4 → j < 16 → bit_at (counts i (j % 2)) (j / 2) ≡ bit_at j i
counts_are i j low = at_below (λ j. bit_at (counts i (j % 2)) (j / 2)) (λ j. bit_at j i) 16 (counts_tried i low) j

-- zeros, but for the last byte of each half
abbrev pub last_bytes : ℕ → ℕ → List ℕ
last_bytes even odd = replicate 15 0 ++ even ∷ replicate 15 0 ++ odd ∷ []

-- slice i with what is set in it
abbrev pub set_in_last : List ℕ → ℕ → List ℕ
set_in_last slice i = zip2 bit_or slice (last_bytes (counts i 0) (counts i 1))

-- every other byte is zero, as trying each position tells
zeros_tried : (even odd h : ℕ) → h < 2 → map (λ p. get_or (last_bytes even odd) (16 * h + p) 0) (range_with_len 0 15) ≡ map (λ p. 0) (range_with_len 0 15)
zeros_tried even odd zero low = refl
zeros_tried even odd (suc zero) low = refl
zeros_tried even odd (suc (suc h)) low = absurd (omega arith)

last_byte : (i h : ℕ) → h < 2 → get_or (last_bytes (counts i 0) (counts i 1)) (16 * h + 15) 0 ≡ counts i h
last_byte i zero low = refl
last_byte i (suc zero) low = refl
last_byte i (suc (suc h)) low = absurd (omega arith)

-- the bits of block j in slice i after that
module _ (slice : List ℕ) (i j : ℕ) (long : length slice ≡ 32) where
  set_bit : (p : ℕ) → p < 16 → bit_in (set_in_last slice i) j p ≡ max (bit_in slice j p) (bit_in (last_bytes (counts i 0) (counts i 1)) j p)
  set_bit p in_block =
      let q : ℕ = 16 * (j % 2) + p in
      ap (λ (n : ℕ). bit_at n (j / 2)) (lane bit_or slice (last_bytes (counts i 0) (counts i 1)) q long refl (omega arith))
      ∙ bit_at_or (get_or slice q 0) (get_or (last_bytes (counts i 0) (counts i 1)) q 0) (j / 2)

  kept_bit : (p : ℕ) → p < 15 → bit_in (set_in_last slice i) j p ≡ bit_in slice j p
  kept_bit p before =
      let h : ℕ = j % 2 in
      let none = at_below (λ p. get_or (last_bytes (counts i 0) (counts i 1)) (16 * h + p) 0) (λ p. 0) 15 (zeros_tried (counts i 0) (counts i 1) h (omega arith)) p before in
      let clear : bit_in (last_bytes (counts i 0) (counts i 1)) j p ≡ 0 = ap (λ (n : ℕ). bit_at n (j / 2)) none ∙ bit_at-zero (j / 2) in
      omega (arith, set_bit p (omega arith), clear)

  -- the bit of j is set in the last byte of block j
  last_bit : i < 4 → j < 16 → bit_in (set_in_last slice i) j 15 ≡ max (bit_in slice j 15) (bit_at j i)
  last_bit low below =
      set_bit 15 (omega arith)
      ∙ ap (max (bit_in slice j 15)) (ap (λ (n : ℕ). bit_at n (j / 2)) (last_byte i (j % 2) (omega arith)) ∙ counts_are i j low below)

-- eight slices in whose last bytes the bits of 0 to 15 were set
abbrev pub counted : List (List ℕ) → List (List ℕ)
counted slices =
    eight (set_in_last (get_or slices 0 []) 0) (set_in_last (get_or slices 1 []) 1) (set_in_last (get_or slices 2 []) 2) (set_in_last (get_or slices 3 []) 3)
    (get_or slices 4 []) (get_or slices 5 []) (get_or slices 6 []) (get_or slices 7 [])

-- the same, where the vectors are given by what they are
pub counted_is : (slices : List (List ℕ)) (a b c d : List ℕ) → a ≡ last_bytes 0 255 → b ≡ last_bytes 170 170 → c ≡ last_bytes 204 204 → d ≡ last_bytes 240 240
    → counted slices ≡ eight (zip2 bit_or (get_or slices 0 []) a) (zip2 bit_or (get_or slices 1 []) b) (zip2 bit_or (get_or slices 2 []) c) (zip2 bit_or (get_or slices 3 []) d)
    (get_or slices 4 []) (get_or slices 5 []) (get_or slices 6 []) (get_or slices 7 [])
counted_is slices a b c d ones twos fours eights = λ i.
    eight (zip2 bit_or (get_or slices 0 []) (sym ones i)) (zip2 bit_or (get_or slices 1 []) (sym twos i)) (zip2 bit_or (get_or slices 2 []) (sym fours i)) (zip2 bit_or (get_or slices 3 []) (sym eights i))
    (get_or slices 4 []) (get_or slices 5 []) (get_or slices 6 []) (get_or slices 7 [])

module _ (slices : List (List ℕ)) (are : AreSlices slices) where
  abbrev slice : ℕ → List ℕ
  slice i = get_or slices i []

  long : (i : ℕ) → i < 8 → length (slice i) ≡ 32
  long i low = are.each i [] (omega (arith, are.eight))

  set_long : (i : ℕ) → i < 4 → length (set_in_last (slice i) i) ≡ 32
  set_long i low = long_both bit_or (slice i) (last_bytes (counts i 0) (counts i 1)) (long i (omega arith)) refl

  pub counted_are : AreSlices (counted slices)
  counted_are =
      are_slices (set_in_last (slice 0) 0) (set_in_last (slice 1) 1) (set_in_last (slice 2) 2) (set_in_last (slice 3) 3) (slice 4) (slice 5) (slice 6) (slice 7)
      (set_long 0 (omega arith)) (set_long 1 (omega arith)) (set_long 2 (omega arith)) (set_long 3 (omega arith))
      (long 4 (omega arith)) (long 5 (omega arith)) (long 6 (omega arith)) (long 7 (omega arith))

-- block j of eight slices all of whose blocks were the same, a counter that is a multiple of sixteen
module _ (n j : ℕ) (slices : List (List ℕ)) (are : AreSlices slices) (fits : n < 2 ^ 64) (whole : n % 16 ≡ 0) (below : j < 16)
    (is : block_in slices j ≡ high_bytes n ++ (n % 256) ∷ []) where
  old : (p i : ℕ) → p < 16 → i < 8 → bit_in (get_or slices i []) j p ≡ bit_at (get_or (high_bytes n ++ (n % 256) ∷ []) p 0) i
  old p i = bits_of_block slices (high_bytes n ++ (n % 256) ∷ []) j p i are.eight is

  before_last : (p i : ℕ) → p < 15 → i < 8 → bit_in (get_or (counted slices) i []) j p ≡ bit_in (get_or slices i []) j p
  before_last p i before low =
      by_eight (λ i. bit_in (get_or (counted slices) i []) j p ≡ bit_in (get_or slices i []) j p)
      (kept_bit (get_or slices 0 []) 0 j (long slices are 0 (omega arith)) p before)
      (kept_bit (get_or slices 1 []) 1 j (long slices are 1 (omega arith)) p before)
      (kept_bit (get_or slices 2 []) 2 j (long slices are 2 (omega arith)) p before)
      (kept_bit (get_or slices 3 []) 3 j (long slices are 3 (omega arith)) p before)
      refl refl refl refl i low

  last : (i : ℕ) → i < 8 → bit_in (get_or (counted slices) i []) j 15 ≡ bit_at ((n + j) % 256) i
  last i low =
      by_eight (λ i. bit_in (get_or (counted slices) i []) j 15 ≡ bit_at ((n + j) % 256) i)
      (omega (arith, last_bit (get_or slices 0 []) 0 j (long slices are 0 (omega arith)) (omega arith) below, old 15 0 (omega arith) (omega arith)))
      (omega (arith, last_bit (get_or slices 1 []) 1 j (long slices are 1 (omega arith)) (omega arith) below, old 15 1 (omega arith) (omega arith)))
      (omega (arith, last_bit (get_or slices 2 []) 2 j (long slices are 2 (omega arith)) (omega arith) below, old 15 2 (omega arith) (omega arith)))
      (omega (arith, last_bit (get_or slices 3 []) 3 j (long slices are 3 (omega arith)) (omega arith) below, old 15 3 (omega arith) (omega arith)))
      (omega (arith, old 15 4 (omega arith) (omega arith)))
      (omega (arith, old 15 5 (omega arith) (omega arith)))
      (omega (arith, old 15 6 (omega arith) (omega arith)))
      (omega (arith, old 15 7 (omega arith) (omega arith)))
      i low

  bits : (p i : ℕ) → p < 16 → i < 8 → bit_at (get_or (high_bytes n ++ ((n + j) % 256) ∷ []) p 0) i ≡ bit_in (get_or (counted slices) i []) j p
  bits p i in_block low = elim (cases_lt p 15) [
    | inl before ↦
        ap (λ (b : ℕ). bit_at b i) (but_last (high_bytes n) ((n + j) % 256) (n % 256) p before)
        ∙ sym (old p i in_block low) ∙ sym (before_last p i before low)
    | inr at ↦
        let offset : 15 ≡ p = omega arith in
        subst (λ (q : ℕ). bit_at (get_or (high_bytes n ++ ((n + j) % 256) ∷ []) q 0) i ≡ bit_in (get_or (counted slices) i []) j q) offset (sym (last i low))
  ]

  -- becomes that counter and j
  pub counted_block : block_in (counted slices) j ≡ to_be_bytes w128 (n + j)
  counted_block =
      let is_want : high_bytes n ++ ((n + j) % 256) ∷ [] ≡ to_be_bytes w128 (n + j) = counter_bytes n j (omega arith) (omega arith) in
      sym (is_block (counted slices) (high_bytes n ++ ((n + j) % 256) ∷ []) j refl refl
      (λ p in_block. omega (arith, ap (λ (l : List ℕ). get_or l p 0) is_want, small_bytes 16 (n + j) p)) bits) ∙ is_want
