-- The circuit of the byte substitution: what its four steps make of slices is what they make of each byte, and that is the substituted
-- byte, as all 256 are tried.
use Rattle.std.proofs.Common.{◌≡◌, ℕ, ◌<◌, T, List, [], All, length, map, refl, sym, ap, ap₂, subst, subst₂, ◌∙◌}
use Rattle.std.specs.List.{range_with_len}
use Rattle.std.proofs.lemmas.List.Elements.{All-nil}
use Rattle.aes_ctr.specs.Byte.{product, inverse, substituted}
use Rattle.aes_ctr.specs.Circuit.{bit_of, slice_of, sums, products, inverses, outputs}
use Rattle.aes_ctr.specs.Slices.{AreSlices, bits_in, block_in, number_of}
use Rattle.aes_ctr.proofs.Bytes.{bits_of, boxed_block}
use Rattle.aes_ctr.proofs.Circuits.{Is32, all_read, gates_bits, gates_size}

-- the four steps on bits
abbrev box : List ℕ → List ℕ
box bits =
    let after_sums : List ℕ = map (bit_of bits []) sums in
    let after_products : List ℕ = map (bit_of after_sums []) products in
    map (bit_of after_sums (map (bit_of after_products []) inverses)) outputs

tried : map (λ b. number_of (box (bits_of b))) (range_with_len 0 256) ≡ map substituted (range_with_len 0 256)
unfolding product inverse substituted
tried = refl

module _ (slices summed multiplied inverted result : List (List ℕ)) (is : AreSlices slices)
    (first : summed ≡ map (slice_of slices []) sums) (second : multiplied ≡ map (slice_of summed []) products)
    (third : inverted ≡ map (slice_of multiplied []) inverses) (fourth : result ≡ map (slice_of summed inverted) outputs) where
  sized_1 : All Is32 summed
  sized_1 = subst (All Is32) (sym first) (gates_size slices [] is.each (All-nil Is32) sums (subst (λ n. T (all_read n 0 sums)) (sym is.eight) tt))

  long_1 : length summed ≡ 22
  long_1 = ap length first

  sized_2 : All Is32 multiplied
  sized_2 = subst (All Is32) (sym second) (gates_size summed [] sized_1 (All-nil Is32) products (subst (λ n. T (all_read n 0 products)) (sym long_1) tt))

  long_2 : length multiplied ≡ 4
  long_2 = ap length second

  sized_3 : All Is32 inverted
  sized_3 = subst (All Is32) (sym third) (gates_size multiplied [] sized_2 (All-nil Is32) inverses (subst (λ n. T (all_read n 0 inverses)) (sym long_2) tt))

  long_3 : length inverted ≡ 4
  long_3 = ap length third

  all_there : T (all_read (length summed) (length inverted) outputs)
  all_there = subst₂ (λ n m. T (all_read n m outputs)) (sym long_1) (sym long_3) tt

  pub are_slices : AreSlices result
  are_slices = record { eight = ap length fourth; each = subst (All Is32) (sym fourth) (gates_size summed inverted sized_1 sized_3 outputs all_there) }

  pub substituted_block : (j : ℕ) → j < 16 → block_in result j ≡ map substituted (block_in slices j)
  substituted_block j within = boxed_block substituted box tried slices result j is.eight (λ p offset.
      let bits_1 : bits_in summed j p ≡ map (bit_of (bits_in slices j p) []) sums =
      ap (λ s. bits_in s j p) first ∙ gates_bits slices [] is.each (All-nil Is32) j p within offset sums (subst (λ n. T (all_read n 0 sums)) (sym is.eight) tt) in
      let bits_2 : bits_in multiplied j p ≡ map (bit_of (bits_in summed j p) []) products =
      ap (λ s. bits_in s j p) second ∙ gates_bits summed [] sized_1 (All-nil Is32) j p within offset products (subst (λ n. T (all_read n 0 products)) (sym long_1) tt) in
      let bits_3 : bits_in inverted j p ≡ map (bit_of (bits_in multiplied j p) []) inverses =
      ap (λ s. bits_in s j p) third ∙ gates_bits multiplied [] sized_2 (All-nil Is32) j p within offset inverses (subst (λ n. T (all_read n 0 inverses)) (sym long_2) tt) in
      let bits_4 : bits_in result j p ≡ map (bit_of (bits_in summed j p) (bits_in inverted j p)) outputs =
      ap (λ s. bits_in s j p) fourth ∙ gates_bits summed inverted sized_1 sized_3 j p within offset outputs all_there in
      bits_4 ∙ ap₂ (λ (a b : List ℕ). map (bit_of a b) outputs) bits_1
      (bits_3 ∙ ap (λ (a : List ℕ). map (bit_of a []) inverses) (bits_2 ∙ ap (λ (a : List ℕ). map (bit_of a []) products) bits_1)))
