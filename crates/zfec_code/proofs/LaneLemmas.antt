-- Sums of look-ups in tables of sixteen bytes, and what storing thirty-two sums leaves.
use Rattle.std.proofs.Common.{◌≡◌, ℕ, ◌+◌, ◌-◌, ◌*◌, ◌/◌, ◌%◌, ◌<◌, ◌≤◌, List, length, get_or, bit_xor, sym, ap, ◌∙◌, arith, pow_pos, mod-lt}
use Rattle.std.proofs.lemmas.Simd.{length-zip2, get_or-zip2, length-chunk, get_or-chunk, get_or-put_chunk_below, get_or-put_chunk_at, get_or-put_chunk_above}
use lib.Bits.{xor_assoc, xor_comm, xor_shifted}
use lib.Lanes.{zip2, chunk, put_chunk}
use lib.Pow.{split}
use Rattle.zfec_code.specs.Field.{product}
use Rattle.zfec_code.proofs.Additive.{product-xor_right}
use Rattle.zfec_code.specs.Nibbles.{IsTable}

-- a product is the sum of those of the two nibbles
pub product-nibbles : (c v : ℕ) → bit_xor (product c (v % 16 * 1)) (product c (v / 16 * 16)) ≡ product c v
product-nibbles c v =
    let whole : bit_xor (v / 16 * 16) (v % 16) ≡ v = xor_shifted (v / 16) 4 (v % 16) (mod-lt v (pow_pos 4)) ∙ split v 4 in
    let one : v % 16 * 1 ≡ v % 16 = omega arith in
    ap (λ x. bit_xor (product c x) (product c (v / 16 * 16))) one
    ∙ xor_comm (product c (v % 16)) (product c (v / 16 * 16))
    ∙ sym (product-xor_right c (v / 16 * 16) (v % 16)) ∙ ap (product c) whole

-- a position in a half of a table, which stands there twice
in_half : (half i : ℕ) → i < 16 → (16 * half + i) % 16 ≡ i
in_half half i lt = omega arith

-- byte j of the sum of the look-ups of two nibbles is the product
pub lookups_sum : (a b bytes low high : List ℕ) (c : ℕ) → length a ≡ 32 → length b ≡ 32 → IsTable low c 1 → IsTable high c 16
    → ((j : ℕ) → j < 32 → get_or a j 0 ≡ get_or low (16 * (j / 16) + get_or bytes j 0 % 16) 0)
    → ((j : ℕ) → j < 32 → get_or b j 0 ≡ get_or high (16 * (j / 16) + get_or bytes j 0 / 16) 0)
    → (j : ℕ) → j < 32 → get_or bytes j 0 < 256 → get_or (zip2 bit_xor a b) j 0 ≡ product c (get_or bytes j 0)
lookups_sum a b bytes low high c size_a size_b low_is high_is by_low by_high j within byte =
    let v : ℕ = get_or bytes j 0 in
    let by_rest : v % 16 < 16 = mod-lt v (pow_pos 4) in
    let by_part : v / 16 < 16 = omega arith in
    let first : get_or a j 0 ≡ product c (v % 16 * 1) =
    by_low j within ∙ low_is.each (16 * (j / 16) + v % 16) (omega arith) ∙ ap (λ n. product c (n * 1)) (in_half (j / 16) (v % 16) by_rest) in
    let second : get_or b j 0 ≡ product c (v / 16 * 16) =
    by_high j within ∙ high_is.each (16 * (j / 16) + v / 16) (omega arith) ∙ ap (λ n. product c (n * 16)) (in_half (j / 16) (v / 16) by_part) in
    get_or-zip2 bit_xor a b j 0 0 0 (omega arith) (omega arith)
    ∙ (λ i. bit_xor (first i) (second i))
    ∙ product-nibbles c v

-- what storing the sum of thirty-two bytes of a list and thirty-two others leaves
module _ (dst lanes : List ℕ) (at : ℕ) (fits : at + 32 ≤ length dst) (size : length lanes ≡ 32) where
  abbrev pub sums : List ℕ
  sums = zip2 bit_xor (chunk at 32 dst) lanes

  pub sums_size : length sums ≡ 32
  sums_size =
      let long = length-chunk at 32 dst fits in
      length-zip2 bit_xor (chunk at 32 dst) lanes (omega arith) ∙ long

  pub stored_below : (k : ℕ) → k < at → get_or (put_chunk at dst sums) k 0 ≡ get_or dst k 0
  stored_below k h = get_or-put_chunk_below at dst sums k 0 h

  pub stored_above : (k : ℕ) → at + 32 ≤ k → get_or (put_chunk at dst sums) k 0 ≡ get_or dst k 0
  stored_above k h = let long = sums_size in get_or-put_chunk_above at dst sums k 0 (omega arith)

  pub stored_at : (k : ℕ) → at ≤ k → k < at + 32 → get_or (put_chunk at dst sums) k 0 ≡ bit_xor (get_or dst k 0) (get_or lanes (k - at) 0)
  stored_at k ge lt =
      let j : ℕ = k - at in
      let position : at + j ≡ k = omega arith in
      let within : j < 32 = omega arith in
      let long = sums_size in
      let first = length-chunk at 32 dst fits in
      ap (λ x. get_or (put_chunk at dst sums) x 0) (sym position)
      ∙ get_or-put_chunk_at at dst sums j 0 (omega arith) (omega arith)
      ∙ get_or-zip2 bit_xor (chunk at 32 dst) lanes j 0 0 0 (omega arith) (omega arith)
      ∙ ap (λ x. bit_xor x (get_or lanes j 0)) (get_or-chunk at 32 dst j 0 within)
      ∙ ap (λ x. bit_xor (get_or dst x 0) (get_or lanes j 0)) position

-- byte j of the sum of three lists of thirty-two
pub get_or-three : (a b c : List ℕ) (j : ℕ) → length a ≡ 32 → length b ≡ 32 → length c ≡ 32 → j < 32
    → get_or (zip2 bit_xor (zip2 bit_xor a b) c) j 0 ≡ bit_xor (bit_xor (get_or a j 0) (get_or b j 0)) (get_or c j 0)
get_or-three a b c j size_a size_b size_c within =
    let inner = length-zip2 bit_xor a b (omega arith) in
    get_or-zip2 bit_xor (zip2 bit_xor a b) c j 0 0 0 (omega arith) (omega arith)
    ∙ ap (λ x. bit_xor x (get_or c j 0)) (get_or-zip2 bit_xor a b j 0 0 0 (omega arith) (omega arith))

pub length-three : (a b c : List ℕ) → length a ≡ 32 → length b ≡ 32 → length c ≡ 32 → length (zip2 bit_xor (zip2 bit_xor a b) c) ≡ 32
length-three a b c size_a size_b size_c =
    let inner = length-zip2 bit_xor a b (omega arith) in
    length-zip2 bit_xor (zip2 bit_xor a b) c (omega arith) ∙ inner ∙ size_a

-- a byte plus the multiples of the bytes of three lists at position k
abbrev pub plus_three : ℕ → ℕ → ℕ → ℕ → List ℕ → List ℕ → List ℕ → ℕ → ℕ
plus_three old a b c x y z k = bit_xor (bit_xor (bit_xor old (product a (get_or x k 0))) (product b (get_or y k 0))) (product c (get_or z k 0))

-- three numbers are added at once or one after the other
pub xor_three : (old a b c : ℕ) → bit_xor old (bit_xor (bit_xor a b) c) ≡ bit_xor (bit_xor (bit_xor old a) b) c
xor_three old a b c = sym (xor_assoc old (bit_xor a b) c) ∙ ap (λ x. bit_xor x c) (sym (xor_assoc old a b))
