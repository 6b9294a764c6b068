-- The steps of a round, on sixteen blocks side by side.
use Rattle.std.proofs.Common.{◌≡◌, ℕ, zero, suc, ◌+◌, ◌*◌, ◌/◌, ◌%◌, ◌^◌, ◌<◌, T, List, [], ◌∷◌, length, map, get_or, bit_xor, refl, sym, ap, ap₂, subst, ◌∙◌, arith, zero-add}
use Rattle.std.specs.Int.{bit_at}
use Rattle.std.specs.List.{AllByRecursion, range_with_len}
use Rattle.std.specs.Simd.Lanes.{zip2}
use Rattle.std.proofs.lemmas.List.FromFn.{get_or-map-range_with_len}
use Rattle.std.proofs.lemmas.List.Elements.{All-nil, recursion_from_All}
use Rattle.std.proofs.lemmas.Nat.{xor_block}
use Rattle.std.proofs.lemmas.Nat.Bits.{bit_at_xor}
use Rattle.std.proofs.lemmas.Simd.{get_or-zip2, length-zip2, map-map, zip2-map}
use Rattle.lemmas.proofs.Ranges.{same_below}
use Rattle.aes_ctr.specs.Aes.{xor_bytes}
use Rattle.aes_ctr.specs.Byte.{times_x}
use Rattle.aes_ctr.specs.Circuit.{Gate, wire, sum, bit_of, slice_of}
use Rattle.aes_ctr.specs.Slices.{AreSlices, bit_in, bits_in, block_in, moved_in_halves, number_of}
use Rattle.aes_ctr.proofs.Bytes.{bits_of, bits_small, boxed_block, byte_of_block, length-bits_in}
use Rattle.aes_ctr.proofs.Circuits.{Is32, all_read, gates_bits, gates_size}

-- ---- bytes that change places

module _ (f : ℕ → ℕ) (inside : (p : ℕ) → p < 16 → f p < 16) where
  abbrev pub moved : List ℕ → List ℕ
  moved s = map (λ i. get_or s (f i) 0) (range_with_len 0 16)

  pub moved_block : (slices : List (List ℕ)) (j : ℕ) → block_in (map (moved_in_halves f) slices) j ≡ moved (block_in slices j)
  moved_block slices j = same_below (λ p. number_of (bits_in (map (moved_in_halves f) slices) j p)) (λ p. get_or (block_in slices j) (f p) 0) 16 (λ p lt.
      ap number_of (map-map (λ (s : List ℕ). bit_in s j p) (moved_in_halves f) slices ∙ bits slices p lt)
      ∙ sym (byte_of_block slices j (f p) (inside p lt)))
    where
      bits : (slices : List (List ℕ)) (p : ℕ) → p < 16 → map (λ (s : List ℕ). bit_in (moved_in_halves f s) j p) slices ≡ bits_in slices j (f p)
      bits [] p lt = refl
      bits (s ∷ rest) p lt =
          let q : ℕ = 16 * (j % 2) + p in
          let half : q / 16 ≡ j % 2 = omega arith in
          let offset : q % 16 ≡ p = omega arith in
          ap₂ (λ (x : ℕ) (xs : List ℕ). x ∷ xs)
          (ap (λ x. bit_at x (j / 2)) (get_or-map-range_with_len (λ i. get_or s (16 * (i / 16) + f (i % 16)) 0) 0 32 q q 0 (omega arith) (zero-add q) ∙ (λ i. get_or s (16 * half i + f (offset i)) 0)))
          (bits rest p lt)

-- ---- sums

digit_xor : (x y : ℕ) → x < 2 → y < 2 → bit_xor x y ≡ (x + y) % 2
digit_xor zero zero h k = refl
digit_xor zero (suc zero) h k = refl
digit_xor (suc zero) zero h k = refl
digit_xor (suc zero) (suc zero) h k = refl
digit_xor (suc (suc x)) y h k = absurd (omega arith)
digit_xor zero (suc (suc y)) h k = absurd (omega arith)
digit_xor (suc zero) (suc (suc y)) h k = absurd (omega arith)

number_xor : (xs ys : List ℕ) → length xs ≡ length ys → AllByRecursion (λ b. b < 2) xs → AllByRecursion (λ b. b < 2) ys
    → number_of (zip2 (λ (x y : ℕ). (x + y) % 2) xs ys) ≡ bit_xor (number_of xs) (number_of ys)
number_xor [] [] size small_x small_y = refl
number_xor [] (y ∷ ys) size small_x small_y = absurd (omega arith)
number_xor (x ∷ xs) [] size small_x small_y = absurd (omega arith)
number_xor (x ∷ xs) (y ∷ ys) size small_x small_y =
    let m : ℕ = number_of xs in
    let n : ℕ = number_of ys in
    let rest : number_of (zip2 (λ (x y : ℕ). (x + y) % 2) xs ys) ≡ bit_xor m n = number_xor xs ys (omega arith) small_x.1 small_y.1 in
    let low : bit_xor x y ≡ (x + y) % 2 = digit_xor x y small_x.0 small_y.0 in
    let left : m * 2 ^ 1 + x ≡ x + 2 * m = omega arith in
    let right : n * 2 ^ 1 + y ≡ y + 2 * n = omega arith in
    let apart : bit_xor (m * 2 ^ 1 + x) (n * 2 ^ 1 + y) ≡ bit_xor m n * 2 ^ 1 + bit_xor x y = xor_block 1 m n x y small_x.0 small_y.0 in
    let sum : (x + y) % 2 + 2 * number_of (zip2 (λ (x y : ℕ). (x + y) % 2) xs ys) ≡ bit_xor m n * 2 ^ 1 + bit_xor x y = omega arith in
    sum ∙ sym apart ∙ ap₂ bit_xor left right

bits_sum : (a b : List (List ℕ)) (j p : ℕ) → p < 16 → AllByRecursion Is32 a → AllByRecursion Is32 b
    → bits_in (zip2 (zip2 bit_xor) a b) j p ≡ zip2 (λ (x y : ℕ). (x + y) % 2) (bits_in a j p) (bits_in b j p)
bits_sum [] b j p lt size_a size_b = refl
bits_sum (x ∷ a) [] j p lt size_a size_b = refl
bits_sum (x ∷ a) (y ∷ b) j p lt size_a size_b =
    let long_x : length x ≡ 32 = size_a.0 in
    let long_y : length y ≡ 32 = size_b.0 in
    let q : ℕ = 16 * (j % 2) + p in
    ap₂ (λ (h : ℕ) (t : List ℕ). h ∷ t)
    (ap (λ n. bit_at n (j / 2)) (get_or-zip2 bit_xor x y q 0 0 0 (omega arith) (omega arith)) ∙ bit_at_xor (get_or x q 0) (get_or y q 0) (j / 2))
    (bits_sum a b j p lt size_a.1 size_b.1)

module _ (a b : List (List ℕ)) (is_a : AreSlices a) (is_b : AreSlices b) where
  pub sum_slices : AreSlices (zip2 (zip2 bit_xor) a b)
  sum_slices = record {
    eight = size ∙ is_a.eight;
    each = λ k d below.
        let in_a : k < length a = omega (arith, size) in
        let in_b : k < length b = omega (arith, size, is_a.eight, is_b.eight) in
        ap length (get_or-zip2 (zip2 bit_xor) a b k [] [] d in_a in_b)
        ∙ length-zip2 bit_xor (get_or a k []) (get_or b k []) (is_a.each k [] in_a ∙ sym (is_b.each k [] in_b)) ∙ is_a.each k [] in_a;
  }
    where
      size : length (zip2 (zip2 bit_xor) a b) ≡ length a
      size = length-zip2 (zip2 bit_xor) a b (is_a.eight ∙ sym is_b.eight)

  pub sum_block : (j : ℕ) → block_in (zip2 (zip2 bit_xor) a b) j ≡ xor_bytes (block_in a j) (block_in b j)
  sum_block j =
      same_below (λ p. number_of (bits_in (zip2 (zip2 bit_xor) a b) j p)) (λ p. bit_xor (number_of (bits_in a j p)) (number_of (bits_in b j p))) 16 (λ p lt.
      ap number_of (bits_sum a b j p lt (recursion_from_All Is32 a is_a.each) (recursion_from_All Is32 b is_b.each))
      ∙ number_xor (bits_in a j p) (bits_in b j p) (length-bits_in a j p ∙ is_a.eight ∙ sym (length-bits_in b j p ∙ is_b.eight))
      (recursion_from_All (λ b. b < 2) (bits_in a j p) (bits_small a j p)) (recursion_from_All (λ b. b < 2) (bits_in b j p) (bits_small b j p)))
      ∙ sym (zip2-map bit_xor (λ p. number_of (bits_in a j p)) (λ p. number_of (bits_in b j p)) (range_with_len 0 16))

-- ---- times x

abbrev pub doubled_gates : List Gate
doubled_gates =
    wire 7 ∷ sum (wire 0) (wire 7) ∷ wire 1 ∷ sum (wire 2) (wire 7) ∷ sum (wire 3) (wire 7) ∷ wire 4 ∷ wire 5 ∷ wire 6 ∷ []

tried : map (λ b. number_of (map (bit_of (bits_of b) []) doubled_gates)) (range_with_len 0 256) ≡ map times_x (range_with_len 0 256)
tried = refl

module _ (slices : List (List ℕ)) (is : AreSlices slices) where
  there : T (all_read (length slices) 0 doubled_gates)
  there = subst (λ n. T (all_read n 0 doubled_gates)) (sym is.eight) tt

  pub doubled_slices : AreSlices (map (slice_of slices []) doubled_gates)
  doubled_slices = record { eight = refl; each = gates_size slices [] is.each (All-nil Is32) doubled_gates there }

  pub doubled_block : (j : ℕ) → j < 16 → block_in (map (slice_of slices []) doubled_gates) j ≡ map times_x (block_in slices j)
  doubled_block j within =
      boxed_block times_x (λ bits. map (bit_of bits []) doubled_gates) tried slices (map (slice_of slices []) doubled_gates) j is.eight
      (λ p offset. gates_bits slices [] is.each (All-nil Is32) j p within offset doubled_gates there)
