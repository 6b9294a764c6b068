-- MixColumns by doubling: twice the sum of a byte and the one below it, with the other three bytes of the column added.
use Rattle.std.proofs.Common.{◌≡◌, ℕ, zero, suc, ◌+◌, ◌*◌, ◌/◌, ◌<◌, List, [], ◌∷◌, ◌++◌, map, get_or, bit_xor, refl, sym, ap, ap₂, ◌∙◌, arith}
use Rattle.std.specs.List.{range_with_len}
use Rattle.std.proofs.lemmas.Nat.{xor_comm, xor_lt, xor_shr}
use Rattle.lemmas.proofs.Numbers.{double-xor, xor_exchange}
use lib.Bits.{xor_assoc, xor_zero_r}
use Rattle.aes_ctr.specs.Aes.{mix_column, mix_columns, shift_rows, xor_bytes}
use Rattle.aes_ctr.specs.Byte.{product, times_x}
use Rattle.aes_ctr.specs.Slices.{turned_columns}
use Rattle.aes_ctr.proofs.Bytes.{at_below}

-- ---- times x is additive

abbrev carried : ℕ → ℕ
carried b = bit_xor (2 * b) (b / 128 * 0x11b)

carried_tried : map times_x (range_with_len 0 256) ≡ map carried (range_with_len 0 256)
carried_tried = refl

carried_is : (b : ℕ) → b < 256 → times_x b ≡ carried b
carried_is = at_below times_x carried 256 carried_tried

times_283 : (h k : ℕ) → h < 2 → k < 2 → bit_xor h k * 0x11b ≡ bit_xor (h * 0x11b) (k * 0x11b)
times_283 zero zero p q = refl
times_283 zero (suc zero) p q = refl
times_283 (suc zero) zero p q = refl
times_283 (suc zero) (suc zero) p q = refl
times_283 (suc (suc h)) k p q = absurd (omega arith)
times_283 zero (suc (suc k)) p q = absurd (omega arith)
times_283 (suc zero) (suc (suc k)) p q = absurd (omega arith)

times_x-xor : (a b : ℕ) → a < 256 → b < 256 → times_x (bit_xor a b) ≡ bit_xor (times_x a) (times_x b)
times_x-xor a b small_a small_b =
    carried_is (bit_xor a b) (xor_lt 8 a b small_a small_b)
    ∙ ap₂ bit_xor (double-xor a b) (ap (λ x. x * 0x11b) (xor_shr a b 7) ∙ times_283 (a / 128) (b / 128) (omega arith) (omega arith))
    ∙ xor_exchange (2 * a) (2 * b) (a / 128 * 0x11b) (b / 128 * 0x11b)
    ∙ ap₂ bit_xor (sym (carried_is a small_a)) (sym (carried_is b small_b))

-- ---- one byte of a mixed column

product-2 : (a : ℕ) → product 2 a ≡ times_x a
unfolding product
product-2 a = xor_zero_r (times_x a)

product-3 : (a : ℕ) → product 3 a ≡ bit_xor a (times_x a)
unfolding product
product-3 a = ap (bit_xor a) (xor_zero_r (times_x a))

-- the first byte of the column a, b, c, d
mixed_byte : (a b c d : ℕ) → a < 256 → b < 256
    → bit_xor (bit_xor (times_x (bit_xor a b)) b) (bit_xor c d) ≡ bit_xor (bit_xor (bit_xor (product 2 a) (product 3 b)) c) d
mixed_byte a b c d small_a small_b =
    ap (λ x. bit_xor (bit_xor x b) (bit_xor c d)) (times_x-xor a b small_a small_b)
    ∙ sym (xor_assoc (bit_xor (bit_xor (times_x a) (times_x b)) b) c d)
    ∙ ap (λ x. bit_xor (bit_xor x c) d)
    (xor_assoc (times_x a) (times_x b) b ∙ ap₂ bit_xor (sym (product-2 a)) (xor_comm (times_x b) b ∙ sym (product-3 b)))

-- the other bytes, as they stand in the matrix
second_byte : (a b c d : ℕ) → b < 256 → c < 256
    → bit_xor (bit_xor (times_x (bit_xor b c)) c) (bit_xor d a) ≡ bit_xor (bit_xor (bit_xor a (product 2 b)) (product 3 c)) d
second_byte a b c d small_b small_c =
    mixed_byte b c d a small_b small_c ∙ xor_comm (bit_xor (bit_xor (product 2 b) (product 3 c)) d) a
    ∙ sym (xor_assoc a (bit_xor (product 2 b) (product 3 c)) d) ∙ ap (λ x. bit_xor x d) (sym (xor_assoc a (product 2 b) (product 3 c)))

third_byte : (a b c d : ℕ) → c < 256 → d < 256
    → bit_xor (bit_xor (times_x (bit_xor c d)) d) (bit_xor a b) ≡ bit_xor (bit_xor (bit_xor a b) (product 2 c)) (product 3 d)
third_byte a b c d small_c small_d =
    mixed_byte c d a b small_c small_d ∙ xor_assoc (bit_xor (product 2 c) (product 3 d)) a b
    ∙ xor_comm (bit_xor (product 2 c) (product 3 d)) (bit_xor a b) ∙ sym (xor_assoc (bit_xor a b) (product 2 c) (product 3 d))

fourth_byte : (a b c d : ℕ) → d < 256 → a < 256
    → bit_xor (bit_xor (times_x (bit_xor d a)) a) (bit_xor b c) ≡ bit_xor (bit_xor (bit_xor (product 3 a) b) c) (product 2 d)
fourth_byte a b c d small_d small_a =
    mixed_byte d a b c small_d small_a ∙ ap (λ x. bit_xor x c) (xor_assoc (product 2 d) (product 3 a) b)
    ∙ xor_assoc (product 2 d) (bit_xor (product 3 a) b) c ∙ xor_comm (product 2 d) (bit_xor (bit_xor (product 3 a) b) c)

-- ---- whole blocks

module _ (f : ℕ → ℕ) (small : (p : ℕ) → f p < 256) where
  abbrev block : List ℕ
  block = map f (range_with_len 0 16)

  abbrev sums : List ℕ
  sums = xor_bytes block (turned_columns block)

  row_0 : (p : ℕ) → bit_xor (bit_xor (times_x (bit_xor (f p) (f (p + 1)))) (f (p + 1))) (bit_xor (f (p + 2)) (f (p + 3)))
      ≡ bit_xor (bit_xor (bit_xor (product 2 (f p)) (product 3 (f (p + 1)))) (f (p + 2))) (f (p + 3))
  row_0 p = mixed_byte (f p) (f (p + 1)) (f (p + 2)) (f (p + 3)) (small p) (small (p + 1))

  row_1 : (p : ℕ) → bit_xor (bit_xor (times_x (bit_xor (f (p + 1)) (f (p + 2)))) (f (p + 2))) (bit_xor (f (p + 3)) (f p))
      ≡ bit_xor (bit_xor (bit_xor (f p) (product 2 (f (p + 1)))) (product 3 (f (p + 2)))) (f (p + 3))
  row_1 p = second_byte (f p) (f (p + 1)) (f (p + 2)) (f (p + 3)) (small (p + 1)) (small (p + 2))

  row_2 : (p : ℕ) → bit_xor (bit_xor (times_x (bit_xor (f (p + 2)) (f (p + 3)))) (f (p + 3))) (bit_xor (f p) (f (p + 1)))
      ≡ bit_xor (bit_xor (bit_xor (f p) (f (p + 1))) (product 2 (f (p + 2)))) (product 3 (f (p + 3)))
  row_2 p = third_byte (f p) (f (p + 1)) (f (p + 2)) (f (p + 3)) (small (p + 2)) (small (p + 3))

  row_3 : (p : ℕ) → bit_xor (bit_xor (times_x (bit_xor (f (p + 3)) (f p))) (f p)) (bit_xor (f (p + 1)) (f (p + 2)))
      ≡ bit_xor (bit_xor (bit_xor (product 3 (f p)) (f (p + 1))) (f (p + 2))) (product 2 (f (p + 3)))
  row_3 p = fourth_byte (f p) (f (p + 1)) (f (p + 2)) (f (p + 3)) (small (p + 3)) (small p)

  pub mixed_columns : xor_bytes (xor_bytes (map times_x sums) (turned_columns block)) (turned_columns (turned_columns sums)) ≡ mix_columns block
  mixed_columns =
      λ i. row_0 0 i ∷ row_1 0 i ∷ row_2 0 i ∷ row_3 0 i ∷ row_0 4 i ∷ row_1 4 i ∷ row_2 4 i ∷ row_3 4 i
      ∷ row_0 8 i ∷ row_1 8 i ∷ row_2 8 i ∷ row_3 8 i ∷ row_0 12 i ∷ row_1 12 i ∷ row_2 12 i ∷ row_3 12 i ∷ []

-- ---- sums of blocks

-- the sum of two sums, each of two parts
sum_of_parts : (x y a b c d : ℕ) → x ≡ bit_xor a b → y ≡ bit_xor c d → bit_xor x y ≡ bit_xor (bit_xor a c) (bit_xor b d)
sum_of_parts x y a b c d first second = ap₂ bit_xor first second ∙ xor_exchange a b c d

twofold : (a b : ℕ) → a < 256 → b < 256 → product 2 (bit_xor a b) ≡ bit_xor (product 2 a) (product 2 b)
twofold a b small_a small_b = product-2 (bit_xor a b) ∙ times_x-xor a b small_a small_b ∙ ap₂ bit_xor (sym (product-2 a)) (sym (product-2 b))

threefold : (a b : ℕ) → a < 256 → b < 256 → product 3 (bit_xor a b) ≡ bit_xor (product 3 a) (product 3 b)
threefold a b small_a small_b =
    product-3 (bit_xor a b) ∙ sum_of_parts (bit_xor a b) (times_x (bit_xor a b)) a b (times_x a) (times_x b) refl (times_x-xor a b small_a small_b)
    ∙ ap₂ bit_xor (sym (product-3 a)) (sym (product-3 b))

-- two lists of bytes and their sum, place by place
pub record AddUp (s t u : List ℕ) : Type 0 where
  pub first : (p : ℕ) → p < 16 → get_or t p 0 < 256
  pub second : (p : ℕ) → p < 16 → get_or u p 0 < 256
  pub sum : (p : ℕ) → p < 16 → get_or s p 0 ≡ bit_xor (get_or t p 0) (get_or u p 0)

-- a byte of a mixed column: the sum of what four functions give at four positions
abbrev row : (f g h e : ℕ → ℕ) (v : List ℕ) (i j k l : ℕ) → ℕ
row f g h e v i j k l = bit_xor (bit_xor (bit_xor (f (get_or v i 0)) (g (get_or v j 0))) (h (get_or v k 0))) (e (get_or v l 0))

abbrev once : ℕ → ℕ
once b = b

module _ (s t u : List ℕ) (are : AddUp s t u) where
  abbrev Adds : (ℕ → ℕ) → ℕ → Type 0
  Adds f p = f (get_or s p 0) ≡ bit_xor (f (get_or t p 0)) (f (get_or u p 0))

  twice_adds : (p : ℕ) → p < 16 → Adds (product 2) p
  twice_adds p below = ap (product 2) (are.sum p below) ∙ twofold (get_or t p 0) (get_or u p 0) (are.first p below) (are.second p below)

  thrice_adds : (p : ℕ) → p < 16 → Adds (product 3) p
  thrice_adds p below = ap (product 3) (are.sum p below) ∙ threefold (get_or t p 0) (get_or u p 0) (are.first p below) (are.second p below)

  row_adds : (f g h e : ℕ → ℕ) (i j k l : ℕ) → Adds f i → Adds g j → Adds h k → Adds e l
      → row f g h e s i j k l ≡ bit_xor (row f g h e t i j k l) (row f g h e u i j k l)
  row_adds f g h e i j k l at_i at_j at_k at_l =
      sum_of_parts _ _ (bit_xor (bit_xor (f (get_or t i 0)) (g (get_or t j 0))) (h (get_or t k 0))) (bit_xor (bit_xor (f (get_or u i 0)) (g (get_or u j 0))) (h (get_or u k 0)))
      (e (get_or t l 0)) (e (get_or u l 0))
      (sum_of_parts _ _ (bit_xor (f (get_or t i 0)) (g (get_or t j 0))) (bit_xor (f (get_or u i 0)) (g (get_or u j 0))) (h (get_or t k 0)) (h (get_or u k 0))
      (sum_of_parts _ _ (f (get_or t i 0)) (f (get_or u i 0)) (g (get_or t j 0)) (g (get_or u j 0)) at_i at_j) at_k) at_l

  abbrev column : List ℕ → (i j k l : ℕ) → List ℕ
  column v i j k l = mix_column (get_or v i 0) (get_or v j 0) (get_or v k 0) (get_or v l 0)

  column_adds : (i j k l : ℕ) → i < 16 → j < 16 → k < 16 → l < 16 → column s i j k l ≡ xor_bytes (column t i j k l) (column u i j k l)
  column_adds i j k l in_i in_j in_k in_l =
      let row_0 = row_adds (product 2) (product 3) once once i j k l (twice_adds i in_i) (thrice_adds j in_j) (are.sum k in_k) (are.sum l in_l) in
      let row_1 = row_adds once (product 2) (product 3) once i j k l (are.sum i in_i) (twice_adds j in_j) (thrice_adds k in_k) (are.sum l in_l) in
      let row_2 = row_adds once once (product 2) (product 3) i j k l (are.sum i in_i) (are.sum j in_j) (twice_adds k in_k) (thrice_adds l in_l) in
      let row_3 = row_adds (product 3) once once (product 2) i j k l (thrice_adds i in_i) (are.sum j in_j) (are.sum k in_k) (twice_adds l in_l) in
      λ m. row_0 m ∷ row_1 m ∷ row_2 m ∷ row_3 m ∷ []

  -- shifting rows and mixing columns are additive
  pub mixed_sum : mix_columns (shift_rows s) ≡ xor_bytes (mix_columns (shift_rows t)) (mix_columns (shift_rows u))
  mixed_sum =
      let column_0 = column_adds 0 5 10 15 (omega arith) (omega arith) (omega arith) (omega arith) in
      let column_1 = column_adds 4 9 14 3 (omega arith) (omega arith) (omega arith) (omega arith) in
      let column_2 = column_adds 8 13 2 7 (omega arith) (omega arith) (omega arith) (omega arith) in
      let column_3 = column_adds 12 1 6 11 (omega arith) (omega arith) (omega arith) (omega arith) in
      λ m. column_0 m ++ column_1 m ++ column_2 m ++ column_3 m
