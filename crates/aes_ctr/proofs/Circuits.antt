-- A circuit does on the bits of slices what it does on bits.
use Rattle.std.proofs.Common.{◌≡◌, ℕ, ◌+◌, ◌*◌, ◌/◌, ◌%◌, ◌<◌, min, Bool, true, false, ◌&&◌, ltb, T, List, [], ◌∷◌, All, length, map, get_or, bit_and, bit_xor, refl, sym, ap, ap₂, ◌∙◌, arith}
use Rattle.std.proofs.Math.Facts.{ltb_yes}
use Rattle.std.specs.Int.{bit_at}
use Rattle.std.proofs.lemmas.List.{get_or-map}
use Rattle.std.proofs.lemmas.List.Elements.{All-cons, All-nil}
use Rattle.std.proofs.lemmas.Nat.Bits.{bit_at_and, bit_at_xor, bit_at_ones}
use Rattle.std.proofs.lemmas.Simd.{length-zip2, get_or-zip2, get_or-replicate}
use Rattle.aes_ctr.specs.Circuit.{Gate, wire, inner, set, sum, both, bit_of, slice_of}
use Rattle.aes_ctr.specs.Slices.{bit_in, bits_in}

-- all that a gate reads is there
abbrev pub reads : ℕ → ℕ → Gate → Bool
reads n m (wire k) = ltb k n
reads n m (inner k) = ltb k m
reads n m set = true
reads n m (sum a b) = reads n m a && reads n m b
reads n m (both a b) = reads n m a && reads n m b

abbrev pub all_read : ℕ → ℕ → List Gate → Bool
all_read n m [] = true
all_read n m (g ∷ gs) = reads n m g && all_read n m gs

left : (a b : Bool) → T (a && b) → T a
left true b h = tt
left false b h = absurd h

right : (a b : Bool) → T (a && b) → T b
right true b h = h
right false b h = absurd h

abbrev pub Is32 : List ℕ → Type 0
Is32 slice = length slice ≡ 32

module _ (slices made : List (List ℕ)) (each : All Is32 slices) (each_made : All Is32 made) where
  abbrev Reads : Gate → Type 0
  Reads g = T (reads (length slices) (length made) g)

  of_first : (a b : Gate) → T (reads (length slices) (length made) a && reads (length slices) (length made) b) → Reads a
  of_first a b h = left (reads (length slices) (length made) a) (reads (length slices) (length made) b) h

  of_second : (a b : Gate) → T (reads (length slices) (length made) a && reads (length slices) (length made) b) → Reads b
  of_second a b h = right (reads (length slices) (length made) a) (reads (length slices) (length made) b) h

  pub gate_size : (g : Gate) → Reads g → Is32 (slice_of slices made g)
  gate_size (wire k) h = each k [] (ltb_yes h)
  gate_size (inner k) h = each_made k [] (ltb_yes h)
  gate_size set h = refl
  gate_size (sum a b) h =
      let x = gate_size a (of_first a b h) in
      let y = gate_size b (of_second a b h) in
      length-zip2 bit_xor (slice_of slices made a) (slice_of slices made b) (x ∙ sym y) ∙ x
  gate_size (both a b) h =
      let x = gate_size a (of_first a b h) in
      let y = gate_size b (of_second a b h) in
      length-zip2 bit_and (slice_of slices made a) (slice_of slices made b) (x ∙ sym y) ∙ x

  pub gates_size : (gs : List Gate) → T (all_read (length slices) (length made) gs) → All Is32 (map (slice_of slices made) gs)
  gates_size [] h = All-nil Is32
  gates_size (g ∷ gs) h = All-cons Is32 (slice_of slices made g) (map (slice_of slices made) gs) (gate_size g (left _ _ h)) (gates_size gs (right _ _ h))

  module _ (j p : ℕ) (block : j < 16) (offset : p < 16) where
    abbrev q : ℕ
    q = 16 * (j % 2) + p

    abbrev at : List ℕ → ℕ
    at slice = bit_in slice j p

    gate_bit : (g : Gate) → Reads g → at (slice_of slices made g) ≡ bit_of (bits_in slices j p) (bits_in made j p) g
    gate_bit (wire k) h = sym (get_or-map at slices k [] 0 (ltb_yes h))
    gate_bit (inner k) h = sym (get_or-map at made k [] 0 (ltb_yes h))
    gate_bit set h = ap (λ x. bit_at x (j / 2)) (get_or-replicate 32 q 255 0 (omega arith)) ∙ bit_at_ones 8 (j / 2) (omega arith)
    gate_bit (sum a b) h =
        let x : length (slice_of slices made a) ≡ 32 = gate_size a (of_first a b h) in
        let y : length (slice_of slices made b) ≡ 32 = gate_size b (of_second a b h) in
        ap (λ n. bit_at n (j / 2)) (get_or-zip2 bit_xor (slice_of slices made a) (slice_of slices made b) q 0 0 0 (omega arith) (omega arith))
        ∙ bit_at_xor (get_or (slice_of slices made a) q 0) (get_or (slice_of slices made b) q 0) (j / 2)
        ∙ ap₂ (λ (m n : ℕ). (m + n) % 2) (gate_bit a (of_first a b h)) (gate_bit b (of_second a b h))
    gate_bit (both a b) h =
        let x : length (slice_of slices made a) ≡ 32 = gate_size a (of_first a b h) in
        let y : length (slice_of slices made b) ≡ 32 = gate_size b (of_second a b h) in
        ap (λ n. bit_at n (j / 2)) (get_or-zip2 bit_and (slice_of slices made a) (slice_of slices made b) q 0 0 0 (omega arith) (omega arith))
        ∙ bit_at_and (get_or (slice_of slices made a) q 0) (get_or (slice_of slices made b) q 0) (j / 2)
        ∙ ap₂ min (gate_bit a (of_first a b h)) (gate_bit b (of_second a b h))

    pub gates_bits : (gs : List Gate) → T (all_read (length slices) (length made) gs)
        → bits_in (map (slice_of slices made) gs) j p ≡ map (bit_of (bits_in slices j p) (bits_in made j p)) gs
    gates_bits [] h = refl
    gates_bits (g ∷ gs) h = ap₂ (λ (x : ℕ) (xs : List ℕ). x ∷ xs) (gate_bit g (left _ _ h)) (gates_bits gs (right _ _ h))
