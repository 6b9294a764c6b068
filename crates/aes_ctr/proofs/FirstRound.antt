-- The first round of counters that share all but their last byte: by how much it differs from one to another depends on that byte alone.
use Rattle.std.proofs.Common.{◌≡◌, ℕ, zero, suc, ◌+◌, ◌%◌, ◌^◌, ◌<◌, List, [], ◌∷◌, ◌++◌, length, map, get_or, bit_xor, refl, sym, ap, ap₂, ◌∙◌, arith, zero-add, mod-lt, pow_pos}
use Rattle.std.specs.Int.{w128, to_be_bytes}
use Rattle.std.specs.List.{range_with_len}
use Rattle.std.proofs.lemmas.List.FromFn.{get_or-map-range_with_len}
use Rattle.std.proofs.lemmas.Nat.{xor_comm, xor_lt}
use Rattle.lemmas.proofs.Numbers.{xor_exchange}
use lib.Bits.{xor_assoc, xor_self, xor_zero_l, xor_zero_r}
use Rattle.aes_ctr.specs.Aes.{mix_columns, round, round_key, rounds, shift_rows, xor_bytes}
use Rattle.aes_ctr.specs.Byte.{inverse, substituted, substituted_bit}
use Rattle.aes_ctr.specs.Differences.{counter_round}
use Rattle.aes_ctr.proofs.CounterLemmas.{counter_bytes, high_bytes}
use Rattle.aes_ctr.proofs.Mixing.{AddUp, mixed_sum}

-- a sum that cancels
cancelled : (a b : ℕ) → a ≡ bit_xor b (bit_xor a b)
cancelled a b = sym (ap (bit_xor b) (xor_comm a b) ∙ sym (xor_assoc b b a) ∙ ap (λ z. bit_xor z a) (xor_self b) ∙ xor_zero_l a)

substituted_lt : (b : ℕ) → substituted b < 256
unfolding substituted
substituted_lt b =
    let bit : (i : ℕ) → substituted_bit (inverse b) i < 2 = λ i. mod-lt _ (pow_pos 1) in
    omega (arith, bit 0, bit 1, bit 2, bit 3, bit 4, bit 5, bit 6, bit 7)

-- a block with a key added, and substituted
abbrev boxed : List ℕ → List ℕ → List ℕ
boxed key s = map substituted (xor_bytes s key)

boxed_lt : (key s : List ℕ) (p : ℕ) → get_or (boxed key s) p 0 < 256
boxed_lt key [] p = omega arith
boxed_lt [] (b ∷ s) p = omega arith
boxed_lt (k ∷ key) (b ∷ s) zero = substituted_lt (bit_xor b k)
boxed_lt (k ∷ key) (b ∷ s) (suc p) = boxed_lt key s p

-- four blocks: two beginnings, each with two last bytes
boxed_sum : (key g h : List ℕ) (x y p : ℕ) → length g ≡ length h
    → get_or (boxed key (g ++ x ∷ [])) p 0
    ≡ bit_xor (get_or (boxed key (g ++ y ∷ [])) p 0) (bit_xor (get_or (boxed key (h ++ x ∷ [])) p 0) (get_or (boxed key (h ++ y ∷ [])) p 0))
boxed_sum key [] (b ∷ h) x y p size = absurd (omega arith)
boxed_sum key (a ∷ g) [] x y p size = absurd (omega arith)
boxed_sum [] [] [] x y p size = refl
boxed_sum (k ∷ key) [] [] x y zero size = cancelled (substituted (bit_xor x k)) (substituted (bit_xor y k))
boxed_sum (k ∷ key) [] [] x y (suc p) size = refl
boxed_sum [] (a ∷ g) (b ∷ h) x y p size = refl
boxed_sum (k ∷ key) (a ∷ g) (b ∷ h) x y zero size =
    let e : ℕ = substituted (bit_xor b k) in
    sym (ap (bit_xor (substituted (bit_xor a k))) (xor_self e) ∙ xor_zero_r (substituted (bit_xor a k)))
boxed_sum (k ∷ key) (a ∷ g) (b ∷ h) x y (suc p) size = boxed_sum key g h x y p (omega arith)

-- a key that is added to each of three
key_added : (l m n key : List ℕ) → length l ≡ length m → length m ≡ length n
    → xor_bytes (xor_bytes l (xor_bytes m n)) key ≡ xor_bytes (xor_bytes l key) (xor_bytes (xor_bytes m key) (xor_bytes n key))
key_added [] m n key size_m size_n = refl
key_added (a ∷ l) [] n key size_m size_n = absurd (omega arith)
key_added (a ∷ l) (b ∷ m) [] key size_m size_n = absurd (omega arith)
key_added (a ∷ l) (b ∷ m) (c ∷ n) [] size_m size_n = refl
key_added (a ∷ l) (b ∷ m) (c ∷ n) (k ∷ key) size_m size_n =
    ap₂ (λ (x : ℕ) (xs : List ℕ). x ∷ xs)
    (ap (bit_xor (bit_xor a (bit_xor b c))) (sym (xor_zero_r k)) ∙ ap (λ z. bit_xor (bit_xor a (bit_xor b c)) (bit_xor k z)) (sym (xor_self k))
    ∙ xor_exchange a (bit_xor b c) k (bit_xor k k) ∙ ap (bit_xor (bit_xor a k)) (xor_exchange b c k k))
    (key_added l m n key (omega arith) (omega arith))

module _ (key : List ℕ) (n x y : ℕ) (fits : n + 255 < 2 ^ 64) (whole : n % 256 ≡ 0) (small_x : x < 256) (small_y : y < 256) where
  abbrev key_0 : List ℕ
  key_0 = round_key key 0

  -- counter m + z as a block, where m is a multiple of 256
  bytes : (m z : ℕ) → m + 255 < 2 ^ 64 → m % 256 ≡ 0 → z < 256 → to_be_bytes w128 (m + z) ≡ high_bytes m ++ z ∷ []
  bytes m z in_range multiple small =
      let last : (m + z) % 256 ≡ z = omega arith in
      sym (counter_bytes m z (omega arith) (omega arith)) ∙ ap (λ (b : ℕ). high_bytes m ++ b ∷ []) last

  abbrev block : ℕ → ℕ → List ℕ
  block m z = boxed key_0 (high_bytes m ++ z ∷ [])

  -- what two last bytes differ by
  abbrev difference : List ℕ
  difference = map (λ p. bit_xor (get_or (block 0 x) p 0) (get_or (block 0 y) p 0)) (range_with_len 0 16)

  difference_at : (p : ℕ) → p < 16 → get_or difference p 0 ≡ bit_xor (get_or (block 0 x) p 0) (get_or (block 0 y) p 0)
  difference_at p below = get_or-map-range_with_len (λ p. bit_xor (get_or (block 0 x) p 0) (get_or (block 0 y) p 0)) 0 16 p p 0 below (zero-add p)

  apart : AddUp difference (block 0 x) (block 0 y)
  apart = record {
    first = λ p below. boxed_lt key_0 (high_bytes 0 ++ x ∷ []) p;
    second = λ p below. boxed_lt key_0 (high_bytes 0 ++ y ∷ []) p;
    sum = difference_at;
  }

  together : AddUp (block n x) (block n y) difference
  together = record {
    first = λ p below. boxed_lt key_0 (high_bytes n ++ y ∷ []) p;
    second = λ p below. omega (arith, difference_at p below, xor_lt 8 (get_or (block 0 x) p 0) (get_or (block 0 y) p 0) (boxed_lt key_0 (high_bytes 0 ++ x ∷ []) p) (boxed_lt key_0 (high_bytes 0 ++ y ∷ []) p));
    sum = λ p below. boxed_sum key_0 (high_bytes n) (high_bytes 0) x y p refl ∙ ap (bit_xor (get_or (block n y) p 0)) (sym (difference_at p below));
  }

  abbrev mixed : List ℕ → List ℕ
  mixed s = mix_columns (shift_rows s)

  counter_round_is : (m z : ℕ) → m + 255 < 2 ^ 64 → m % 256 ≡ 0 → z < 256 → counter_round key (m + z) ≡ xor_bytes (mixed (block m z)) (round_key key 1)
  unfolding rounds round
  counter_round_is m z in_range multiple small = ap (λ b. xor_bytes (mixed (boxed key_0 b)) (round_key key 1)) (bytes m z in_range multiple small)

  pub counter_round_sum : xor_bytes (counter_round key (n + y)) (xor_bytes (counter_round key x) (counter_round key y)) ≡ counter_round key (n + x)
  counter_round_sum =
      let low_x : counter_round key x ≡ xor_bytes (mixed (block 0 x)) (round_key key 1) = ap (counter_round key) (sym (zero-add x)) ∙ counter_round_is 0 x (omega arith) (omega arith) small_x in
      let low_y : counter_round key y ≡ xor_bytes (mixed (block 0 y)) (round_key key 1) = ap (counter_round key) (sym (zero-add y)) ∙ counter_round_is 0 y (omega arith) (omega arith) small_y in
      ap₂ xor_bytes (counter_round_is n y fits whole small_y) (ap₂ xor_bytes low_x low_y)
      ∙ sym (key_added (mixed (block n y)) (mixed (block 0 x)) (mixed (block 0 y)) (round_key key 1) refl refl)
      ∙ ap (λ s. xor_bytes s (round_key key 1))
      (ap (xor_bytes (mixed (block n y))) (sym (mixed_sum difference (block 0 x) (block 0 y) apart)) ∙ sym (mixed_sum (block n x) (block n y) difference together))
      ∙ sym (counter_round_is n x fits whole small_x)
