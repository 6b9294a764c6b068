-- One bit of each byte of a block, as a slice.
use Rattle.std.proofs.Common.{◌≡◌, ℕ, ◌+◌, ◌-◌, ◌/◌, ◌%◌, ◌++◌, ◌^◌, ◌<◌, ◌==◌, if◌then◌else◌, List, false, cond, eqb, map, length, get_or, replicate, bit_and, refl, sym, ap, ◌∙◌, arith, w8, zero, suc, ◌*◌, pow_pos, ne_eqb, eq-eqb, ext_get_or, length-append, zero-add}
use Rattle.std.specs.Int.{bit_at}
use Rattle.std.specs.List.{range_with_len}
use Rattle.std.proofs.lemmas.List.{get_or_append_left, get_or-append-add}
use Rattle.std.proofs.lemmas.List.FromFn.{get_or-map-range_with_len}
use Rattle.std.proofs.lemmas.Nat.Bits.{bit_at-zero, bit_at_ones, bit_at-lt, and_pow}
use Rattle.std.proofs.lemmas.Simd.{tops_compared, length-sel_l, get_or-sel_l, get_or-zip2, length-zip2, get_or-replicate}
use lib.Lanes.{zip2, sel_l, top}
use Rattle.aes_ctr.proofs.SliceLemmas.{long_both, lane_splat}

-- all bits where the lane has this one, and else none
module _ (bit : ℕ) (both : List ℕ) (long : length both ≡ 32) where
  abbrev masked : List ℕ
  masked = zip2 bit_and both (replicate 32 bit)

  masked_long : length masked ≡ 32
  masked_long = long_both bit_and both (replicate 32 bit) long refl

  abbrev pub selected : List ℕ
  selected = sel_l (map (top 7) (zip2 (λ a b. cond (eqb a b) (2 ^ 8 - 1) 0) masked (replicate 32 bit))) (replicate 32 255) (replicate 32 0)

  is_selected : selected ≡ sel_l (zip2 eqb masked (replicate 32 bit)) (replicate 32 255) (replicate 32 0)
  is_selected = ap (λ ms. sel_l ms (replicate 32 255) (replicate 32 0)) (tops_compared w8 eqb masked (replicate 32 bit))

  tests_long : length (zip2 eqb masked (replicate 32 bit)) ≡ 32
  tests_long = let l = masked_long in length-zip2 eqb masked (replicate 32 bit) l ∙ l

  pub selected_long : length selected ≡ 32
  selected_long =
      let l = tests_long in
      ap length is_selected ∙ length-sel_l (zip2 eqb masked (replicate 32 bit)) (replicate 32 255) (replicate 32 0) l l ∙ l

  pub selected_lane : (p : ℕ) → p < 32 → get_or selected p 0 ≡ (if bit_and (get_or both p 0) bit == bit then 255 else 0)
  selected_lane p below =
      let l = tests_long in
      let ml = masked_long in
      ap (λ (v : List ℕ). get_or v p 0) is_selected
      ∙ get_or-sel_l (zip2 eqb masked (replicate 32 bit)) (replicate 32 255) (replicate 32 0) p 0 (omega arith) below below
      ∙ (λ i. cond (get_or-zip2 eqb masked (replicate 32 bit) p 0 0 false (omega arith) below i) (get_or-replicate 32 p 255 0 below i) (get_or-replicate 32 p 0 0 below i))
      ∙ (λ i. cond (eqb (lane_splat bit_and both bit p long below i) (get_or-replicate 32 p bit 0 below i)) 255 0)

-- a block in both halves of a slice
pub in_both : (block : List ℕ) (h p : ℕ) → length block ≡ 16 → h < 2 → p < 16 → get_or (block ++ block) (16 * h + p) 0 ≡ get_or block p 0
in_both block zero p long low within =
    let offset : 16 * 0 + p ≡ p = omega arith in
    ap (λ (q : ℕ). get_or (block ++ block) q 0) offset ∙ get_or_append_left block block 0 p (omega arith)
in_both block (suc zero) p long low within =
    let offset : 16 * 1 + p ≡ length block + p = omega arith in
    ap (λ (q : ℕ). get_or (block ++ block) q 0) offset ∙ get_or-append-add block block p 0
in_both block (suc (suc h)) p long low within = absurd (omega arith)

-- as a shuffle makes it of the block
pub both_is : (block : List ℕ) → length block ≡ 16 → map (λ q. get_or (block ++ block) (q % 16) 0) (range_with_len 0 32) ≡ block ++ block
both_is block long =
    ext_get_or 0 (map (λ q. get_or (block ++ block) (q % 16) 0) (range_with_len 0 32)) (block ++ block) (omega (arith, length-append block block))
    (λ q within.
    let offset : 16 * (q / 16) + q % 16 ≡ q = omega arith in
    let below : q < 32 = within in
    get_or-map-range_with_len (λ q. get_or (block ++ block) (q % 16) 0) 0 32 q q 0 below (zero-add q)
    ∙ get_or_append_left block block 0 (q % 16) (omega arith) ∙ sym (in_both block (q / 16) (q % 16) long (omega arith) (omega arith))
    ∙ ap (λ (k : ℕ). get_or (block ++ block) k 0) offset)

digit : (d m j : ℕ) → d < 2 → 0 < m → j < 8 → d ≡ bit_at (if d * m == m then 255 else 0) j
digit zero m j small some within =
    let none : 0 * m ≡ 0 = omega arith in
    sym (bit_at-zero j) ∙ (λ i. bit_at (if (sym (ne_eqb 0 m (omega arith))) i then 255 else 0) j) ∙ ap (λ (n : ℕ). bit_at (if n == m then 255 else 0) j) (sym none)
digit (suc zero) m j small some within =
    let one : 1 * m ≡ m = omega arith in
    sym (bit_at_ones 8 j within) ∙ (λ i. bit_at (if (sym (eq-eqb m m refl)) i then 255 else 0) j) ∙ ap (λ (n : ℕ). bit_at (if n == m then 255 else 0) j) (sym one)
digit (suc (suc d)) m j small some within = absurd (omega arith)

-- every bit of such a lane is the bit that it was made of
pub spread_bit : (x i j : ℕ) → j < 8 → bit_at x i ≡ bit_at (if bit_and x (2 ^ i) == 2 ^ i then 255 else 0) j
spread_bit x i j within =
    digit (bit_at x i) (2 ^ i) j (bit_at-lt x i) (pow_pos i) within ∙ ap (λ (n : ℕ). bit_at (if n == 2 ^ i then 255 else 0) j) (sym (and_pow x i))
