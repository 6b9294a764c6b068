-- Eight slices after three exchanges: the bits, transposed.
use Rattle.std.proofs.Common.{◌≡◌, ℕ, ◌+◌, ◌-◌, ◌*◌, ◌/◌, ◌%◌, ◌<◌, ◌==◌, if◌then◌else◌, List, [], ◌∷◌, ◌++◌, length, get_or, map, take, drop, refl, sym, ap, ◌∙◌, arith, div-one}
use Rattle.std.specs.Int.{bit_at}
use Rattle.std.specs.List.{range_with_len}
use Rattle.std.proofs.lemmas.List.{get_or-drop, get_or-take, length-drop, length-take-le, take-append-drop, take_all}
use Rattle.lemmas.proofs.Eights.{by_eight}
use Rattle.aes_ctr.specs.Slices.{AreSlices, block_in}
use Rattle.aes_ctr.proofs.Bytes.{at_below, is_block}

-- bit b of byte p of slice i
abbrev pub slice_bit : List (List ℕ) → ℕ → ℕ → ℕ → ℕ
slice_bit slices p i b = bit_at (get_or (get_or slices i []) p 0) b

-- where bit b of slice i comes from in an exchange of groups of s bits
abbrev pub slice_before : ℕ → ℕ → ℕ → ℕ
slice_before s i b = i - s * (i / s % 2) + s * (b / s % 2)

-- bit b of byte p of the first and of the second of two slices after an exchange
abbrev pub firsts : ℕ → ℕ → List ℕ → List ℕ → ℕ → ℕ
firsts s p low high b = if b / s % 2 == 0 then bit_at (get_or low p 0) b else bit_at (get_or high p 0) (b - s)

abbrev pub seconds : ℕ → ℕ → List ℕ → List ℕ → ℕ → ℕ
seconds s p low high b = if b / s % 2 == 0 then bit_at (get_or low p 0) (b + s) else bit_at (get_or high p 0) b

pub record Exchanged (s p : ℕ) (low high first second : List ℕ) : Type 0 where
  pub firsts_are : (b : ℕ) → b < 8 → bit_at (get_or first p 0) b ≡ firsts s p low high b
  pub seconds_are : (b : ℕ) → b < 8 → bit_at (get_or second p 0) b ≡ seconds s p low high b

-- groups of one bit
pub of_single_bits : (p : ℕ) (low high first second : List ℕ)
    → ((b : ℕ) → b < 8 → bit_at (get_or first p 0) b ≡ (if b % 2 == 0 then bit_at (get_or low p 0) b else bit_at (get_or high p 0) (b - 1)))
    → ((b : ℕ) → b < 8 → bit_at (get_or second p 0) b ≡ (if b % 2 == 0 then bit_at (get_or low p 0) (b + 1) else bit_at (get_or high p 0) b))
    → Exchanged 1 p low high first second
of_single_bits p low high first second firsts_are seconds_are = record {
  firsts_are = λ b within.
      firsts_are b within ∙ ap (λ (n : ℕ). if n % 2 == 0 then bit_at (get_or low p 0) b else bit_at (get_or high p 0) (b - 1)) (sym (div-one b));
  seconds_are = λ b within.
      seconds_are b within ∙ ap (λ (n : ℕ). if n % 2 == 0 then bit_at (get_or low p 0) (b + 1) else bit_at (get_or high p 0) b) (sym (div-one b));
}

-- those of all eight slices
abbrev pub Stage : ℕ → ℕ → List (List ℕ) → List (List ℕ) → Type 0
Stage s p old new = (i b : ℕ) → i < 8 → b < 8 → slice_bit new p i b ≡ slice_bit old p (slice_before s i b) (slice_before s b i)

abbrev pub eight : List ℕ → List ℕ → List ℕ → List ℕ → List ℕ → List ℕ → List ℕ → List ℕ → List (List ℕ)
eight a b c d e f g h = a ∷ b ∷ c ∷ d ∷ e ∷ f ∷ g ∷ h ∷ []

-- one slice of them, by its eight bits
row : (s p i : ℕ) (old : List (List ℕ)) (made : ℕ → ℕ) (slice : List ℕ)
    → map made (range_with_len 0 8) ≡ map (λ b. slice_bit old p (slice_before s i b) (slice_before s b i)) (range_with_len 0 8)
    → ((b : ℕ) → b < 8 → bit_at (get_or slice p 0) b ≡ made b)
    → (b : ℕ) → b < 8 → bit_at (get_or slice p 0) b ≡ slice_bit old p (slice_before s i b) (slice_before s b i)
row s p i old made slice same is b within =
    is b within ∙ at_below made (λ b. slice_bit old p (slice_before s i b) (slice_before s b i)) 8 same b within

module _ (p : ℕ) (a0 a1 a2 a3 a4 a5 a6 a7 c0 c1 c2 c3 c4 c5 c6 c7 : List ℕ) where
  pub stage_1 : Exchanged 1 p a0 a1 c0 c1 → Exchanged 1 p a2 a3 c2 c3 → Exchanged 1 p a4 a5 c4 c5 → Exchanged 1 p a6 a7 c6 c7
      → Stage 1 p (eight a0 a1 a2 a3 a4 a5 a6 a7) (eight c0 c1 c2 c3 c4 c5 c6 c7)
  stage_1 e01 e23 e45 e67 i b below within =
      let old = eight a0 a1 a2 a3 a4 a5 a6 a7 in
      by_eight (λ i. slice_bit (eight c0 c1 c2 c3 c4 c5 c6 c7) p i b ≡ slice_bit old p (slice_before 1 i b) (slice_before 1 b i))
      (row 1 p 0 old (firsts 1 p a0 a1) c0 refl e01.firsts_are b within)
      (row 1 p 1 old (seconds 1 p a0 a1) c1 refl e01.seconds_are b within)
      (row 1 p 2 old (firsts 1 p a2 a3) c2 refl e23.firsts_are b within)
      (row 1 p 3 old (seconds 1 p a2 a3) c3 refl e23.seconds_are b within)
      (row 1 p 4 old (firsts 1 p a4 a5) c4 refl e45.firsts_are b within)
      (row 1 p 5 old (seconds 1 p a4 a5) c5 refl e45.seconds_are b within)
      (row 1 p 6 old (firsts 1 p a6 a7) c6 refl e67.firsts_are b within)
      (row 1 p 7 old (seconds 1 p a6 a7) c7 refl e67.seconds_are b within)
      i below

  pub stage_2 : Exchanged 2 p a0 a2 c0 c2 → Exchanged 2 p a1 a3 c1 c3 → Exchanged 2 p a4 a6 c4 c6 → Exchanged 2 p a5 a7 c5 c7
      → Stage 2 p (eight a0 a1 a2 a3 a4 a5 a6 a7) (eight c0 c1 c2 c3 c4 c5 c6 c7)
  stage_2 e02 e13 e46 e57 i b below within =
      let old = eight a0 a1 a2 a3 a4 a5 a6 a7 in
      by_eight (λ i. slice_bit (eight c0 c1 c2 c3 c4 c5 c6 c7) p i b ≡ slice_bit old p (slice_before 2 i b) (slice_before 2 b i))
      (row 2 p 0 old (firsts 2 p a0 a2) c0 refl e02.firsts_are b within)
      (row 2 p 1 old (firsts 2 p a1 a3) c1 refl e13.firsts_are b within)
      (row 2 p 2 old (seconds 2 p a0 a2) c2 refl e02.seconds_are b within)
      (row 2 p 3 old (seconds 2 p a1 a3) c3 refl e13.seconds_are b within)
      (row 2 p 4 old (firsts 2 p a4 a6) c4 refl e46.firsts_are b within)
      (row 2 p 5 old (firsts 2 p a5 a7) c5 refl e57.firsts_are b within)
      (row 2 p 6 old (seconds 2 p a4 a6) c6 refl e46.seconds_are b within)
      (row 2 p 7 old (seconds 2 p a5 a7) c7 refl e57.seconds_are b within)
      i below

  pub stage_4 : Exchanged 4 p a0 a4 c0 c4 → Exchanged 4 p a1 a5 c1 c5 → Exchanged 4 p a2 a6 c2 c6 → Exchanged 4 p a3 a7 c3 c7
      → Stage 4 p (eight a0 a1 a2 a3 a4 a5 a6 a7) (eight c0 c1 c2 c3 c4 c5 c6 c7)
  stage_4 e04 e15 e26 e37 i b below within =
      let old = eight a0 a1 a2 a3 a4 a5 a6 a7 in
      by_eight (λ i. slice_bit (eight c0 c1 c2 c3 c4 c5 c6 c7) p i b ≡ slice_bit old p (slice_before 4 i b) (slice_before 4 b i))
      (row 4 p 0 old (firsts 4 p a0 a4) c0 refl e04.firsts_are b within)
      (row 4 p 1 old (firsts 4 p a1 a5) c1 refl e15.firsts_are b within)
      (row 4 p 2 old (firsts 4 p a2 a6) c2 refl e26.firsts_are b within)
      (row 4 p 3 old (firsts 4 p a3 a7) c3 refl e37.firsts_are b within)
      (row 4 p 4 old (seconds 4 p a0 a4) c4 refl e04.seconds_are b within)
      (row 4 p 5 old (seconds 4 p a1 a5) c5 refl e15.seconds_are b within)
      (row 4 p 6 old (seconds 4 p a2 a6) c6 refl e26.seconds_are b within)
      (row 4 p 7 old (seconds 4 p a3 a7) c7 refl e37.seconds_are b within)
      i below

-- three exchanges, of single bits, of pairs and of groups of four, are the transposition
pub transposed : (p : ℕ) (s0 s1 s2 s3 : List (List ℕ)) → Stage 1 p s0 s1 → Stage 2 p s1 s2 → Stage 4 p s2 s3
    → (i b : ℕ) → i < 8 → b < 8 → slice_bit s3 p i b ≡ slice_bit s0 p b i
transposed p s0 s1 s2 s3 one two four i b below within =
    let i1 = slice_before 4 i b in
    let b1 = slice_before 4 b i in
    let i2 = slice_before 2 i1 b1 in
    let b2 = slice_before 2 b1 i1 in
    let same_i : slice_before 1 i2 b2 ≡ b = omega arith in
    let same_b : slice_before 1 b2 i2 ≡ i = omega arith in
    four i b below within ∙ two i1 b1 (omega arith) (omega arith) ∙ one i2 b2 (omega arith) (omega arith) ∙ (λ k. slice_bit s0 p (same_i k) (same_b k))

-- a vector with the bits of two blocks is the one after the other
module _ (slices : List (List ℕ)) (vector : List ℕ) (t : ℕ) (count : length slices ≡ 8) (long : length vector ≡ 32)
    (bytes : (q : ℕ) → q < 32 → get_or vector q 0 < 256)
    (bits : (q i : ℕ) → q < 32 → i < 8 → bit_at (get_or vector q 0) i ≡ slice_bit slices q i t) where
  half : (h : ℕ) → h < 2 → take 16 (drop (16 * h) vector) ≡ block_in slices (2 * t + h)
  half h low =
      is_block slices (take 16 (drop (16 * h) vector)) (2 * t + h) count
      (length-take-le 16 (drop (16 * h) vector) (omega (arith, length-drop (16 * h) vector)))
      (λ p within. omega (arith, is p within, bytes (16 * h + p) (omega arith)))
      (λ p i within in_byte.
      let offset : 16 * h + p ≡ 16 * ((2 * t + h) % 2) + p = omega arith in
      let bit : t ≡ (2 * t + h) / 2 = omega arith in
      ap (λ n. bit_at n i) (is p within) ∙ bits (16 * h + p) i (omega arith) in_byte ∙ (λ k. slice_bit slices (offset k) i (bit k)))
    where
      is : (p : ℕ) → p < 16 → get_or (take 16 (drop (16 * h) vector)) p 0 ≡ get_or vector (16 * h + p) 0
      is p within = get_or-take 16 (drop (16 * h) vector) p 0 within ∙ get_or-drop (16 * h) vector p 0

  pub two_blocks : vector ≡ block_in slices (2 * t) ++ block_in slices (2 * t + 1)
  two_blocks =
      let first : 2 * t + 0 ≡ 2 * t = omega arith in
      sym (take-append-drop 16 vector)
      ∙ (λ i. (half 0 (omega arith) ∙ ap (block_in slices) first) i ++ (sym (take_all 16 (drop 16 vector) (omega (arith, length-drop 16 vector))) ∙ half 1 (omega arith)) i)

-- eight vectors that are whole
pub are_slices : (a b c d e f g h : List ℕ) → length a ≡ 32 → length b ≡ 32 → length c ≡ 32 → length d ≡ 32
    → length e ≡ 32 → length f ≡ 32 → length g ≡ 32 → length h ≡ 32 → AreSlices (eight a b c d e f g h)
are_slices a b c d e f g h la lb lc ld le lf lg lh = record {
  eight = refl;
  each = λ k other below. by_eight (λ k. length (get_or (eight a b c d e f g h) k other) ≡ 32) la lb lc ld le lf lg lh k below;
}
