-- Lists of bytes, and that a file's ciphertext is one.
use Rattle.std.proofs.Common.{◌≡◌, ℕ, zero, suc, ◌+◌, ◌-◌, ◌*◌, ◌/◌, ◌%◌, ◌^◌, ◌<◌, List, [], ◌∷◌, ◌++◌, Bool, true, false, if◌then◌else◌, length, get_or, bit_xor, map, take, drop, replicate, sum_by, inl, inr, refl, sym, subst, ap, ◌∙◌, arith}
use Rattle.std.specs.Int.{w32, to_be_bytes}
use Rattle.std.specs.List.{range_with_len}
use Rattle.std.proofs.lemmas.Bool.{cases_lt}
use Rattle.std.proofs.lemmas.List.{get_or-append_right, get_or-drop, get_or-replicate, get_or-take, get_or_append_left, get_or_past, length-replicate, length-take}
use Rattle.std.proofs.lemmas.Nat.{xor_of_8}
use lib.Bits.{xor_assoc, xor_self, xor_zero_r}
use Rattle.aes_ctr.specs.Aes.{encrypted, key_words, last_round, next_key_word, round_constants, round_key, rounds, shift_rows, turned_word, word_at, xor_bytes}
use Rattle.aes_ctr.specs.Byte.{inverse, substituted, substituted_bit}
use Rattle.aes_ctr.specs.CounterMode.{stream_byte, xored, xored_from}

-- each element of a list is a byte
abbrev pub AreBytes : List ℕ → Type 0
AreBytes xs = (i : ℕ) → get_or xs i 0 < 256

pub bytes-drop : (n : ℕ) (xs : List ℕ) → AreBytes xs → AreBytes (drop n xs)
bytes-drop n xs bytes i = subst (λ x. x < 256) (sym (get_or-drop n xs i 0)) (bytes (n + i))

pub bytes-append : (xs ys : List ℕ) → AreBytes xs → AreBytes ys → AreBytes (xs ++ ys)
bytes-append xs ys first second i =
    elim (cases_lt i (length xs)) [
      | inl inside ↦ subst (λ x. x < 256) (sym (get_or_append_left xs ys 0 i inside)) (first i)
      | inr after ↦ subst (λ x. x < 256) (sym (get_or-append_right xs ys (length xs) i 0 refl after)) (second (i - length xs))
    ]

pub bytes-take : (n : ℕ) (xs : List ℕ) → AreBytes xs → AreBytes (take n xs)
bytes-take n xs bytes i =
    elim (cases_lt i n) [
      | inl inside ↦ subst (λ x. x < 256) (sym (get_or-take n xs i 0 inside)) (bytes i)
      | inr after ↦ subst (λ x. x < 256) (sym (get_or_past (take n xs) i 0 (omega (arith, after, length-take n xs)))) (omega arith)
    ]

pub bytes-zeros : (n : ℕ) → AreBytes (replicate n 0)
bytes-zeros n i =
    elim (cases_lt i n) [
      | inl inside ↦ subst (λ x. x < 256) (sym (get_or-replicate n i 0 0 inside)) (omega arith)
      | inr after ↦ subst (λ x. x < 256) (sym (get_or_past (replicate n 0) i 0 (omega (arith, after, length-replicate {A = ℕ} n 0)))) (omega arith)
    ]

pub bytes-none : AreBytes []
bytes-none i = omega arith

bytes-cons : (x : ℕ) (xs : List ℕ) → x < 256 → AreBytes xs → AreBytes (x ∷ xs)
bytes-cons x xs here rest zero = here
bytes-cons x xs here rest (suc i) = rest i

bytes-map : (f : ℕ → ℕ) → ((x : ℕ) → f x < 256) → (xs : List ℕ) → AreBytes (map f xs)
bytes-map f each [] = bytes-none
bytes-map f each (x ∷ xs) = bytes-cons (f x) (map f xs) (each x) (bytes-map f each xs)

bytes-xor : (xs ys : List ℕ) → AreBytes xs → AreBytes ys → AreBytes (xor_bytes xs ys)
bytes-xor [] ys a b = bytes-none
bytes-xor (x ∷ xs) [] a b = bytes-none
bytes-xor (x ∷ xs) (y ∷ ys) a b =
    bytes-cons (bit_xor x y) (xor_bytes xs ys) (xor_of_8 x y (a 0) (b 0)) (bytes-xor xs ys (λ j. a (suc j)) (λ j. b (suc j)))

bytes-if : (c : Bool) (xs ys : List ℕ) → AreBytes xs → AreBytes ys → AreBytes (if c then xs else ys)
bytes-if true xs ys a b = a
bytes-if false xs ys a b = b

-- the same, one after another
abbrev pub EachByte : List ℕ → Type 0
EachByte [] = Unit {0}
EachByte (x ∷ xs) = (x < 256) × EachByte xs

pub bytes-each : (xs : List ℕ) → EachByte xs → AreBytes xs
bytes-each [] each = bytes-none
bytes-each (x ∷ xs) each = bytes-cons x xs each.0 (bytes-each xs each.1)

pub bytes-number : (n : ℕ) → AreBytes (to_be_bytes w32 n)
bytes-number n = bytes-each (to_be_bytes w32 n) (omega arith, (omega arith, (omega arith, (omega arith, tt))))

-- a sum of eight bits
eight_bits : (f : ℕ → ℕ) → ((i : ℕ) → f i < 2) → sum_by (λ i. f i * 2 ^ i) (range_with_len 0 8) < 256
eight_bits f each = omega (arith, each 0, each 1, each 2, each 3, each 4, each 5, each 6, each 7)

substituted_bit-lt : (c i : ℕ) → substituted_bit c i < 2
substituted_bit-lt c i = omega arith

substituted-lt : (b : ℕ) → substituted b < 256
unfolding substituted
substituted-lt b = eight_bits (substituted_bit (inverse b)) (substituted_bit-lt (inverse b))

-- each word of a list has bytes
abbrev HaveBytes : List (List ℕ) → Type 0
HaveBytes words = (j : ℕ) → AreBytes (get_or words j [])

words-map : (f : ℕ → List ℕ) → ((x : ℕ) → AreBytes (f x)) → (xs : List ℕ) → HaveBytes (map f xs)
words-map f each [] j = bytes-none
words-map f each (x ∷ xs) zero = each x
words-map f each (x ∷ xs) (suc j) = words-map f each xs j

words-push : (words : List (List ℕ)) (word : List ℕ) → HaveBytes words → AreBytes word → HaveBytes (words ++ word ∷ [])
words-push [] word each new zero = new
words-push [] word each new (suc j) = bytes-none
words-push (x ∷ xs) word each new zero = each 0
words-push (x ∷ xs) word each new (suc j) = words-push xs word (λ k. each (suc k)) new j

bytes-constants : AreBytes round_constants
bytes-constants =
    bytes-each round_constants
    (omega arith, (omega arith, (omega arith, (omega arith, (omega arith, (omega arith, (omega arith, (omega arith, (omega arith, (omega arith, tt))))))))))

bytes-turned : (w : List ℕ) (constant : ℕ) → constant < 256 → AreBytes (turned_word w constant)
bytes-turned w constant low =
    bytes-each (turned_word w constant) (
      xor_of_8 (substituted (get_or w 1 0)) constant (substituted-lt (get_or w 1 0)) low,
      (substituted-lt (get_or w 2 0), (substituted-lt (get_or w 3 0), (substituted-lt (get_or w 0 0), tt))),
    )

bytes-next : (words : List (List ℕ)) (i : ℕ) → HaveBytes words → AreBytes (next_key_word words i)
bytes-next words i each =
    bytes-xor (word_at words (i - 4)) _ (each (i - 4))
    (bytes-if _ (turned_word (word_at words (i - 1)) (get_or round_constants (i / 4 - 1) 0)) (word_at words (i - 1))
    (bytes-turned (word_at words (i - 1)) (get_or round_constants (i / 4 - 1) 0) (bytes-constants (i / 4 - 1))) (each (i - 1)))

module _ (key : List ℕ) (bytes : AreBytes key) where
  bytes-key_words : (n : ℕ) → HaveBytes (key_words key n)
  unfolding key_words
  bytes-key_words zero = words-map (λ i. take 4 (drop (4 * i) key)) (λ i. bytes-take 4 (drop (4 * i) key) (bytes-drop (4 * i) key bytes)) (range_with_len 0 4)
  bytes-key_words (suc n) = words-push (key_words key n) (next_key_word (key_words key n) (n + 4)) (bytes-key_words n) (bytes-next (key_words key n) (n + 4) (bytes-key_words n))

  bytes-round_key : (r : ℕ) → AreBytes (round_key key r)
  bytes-round_key r =
      let word : ℕ → List ℕ = word_at (key_words key 40) in
      let each = bytes-key_words 40 in
      bytes-append (word (4 * r) ++ word (4 * r + 1) ++ word (4 * r + 2)) (word (4 * r + 3))
      (bytes-append (word (4 * r) ++ word (4 * r + 1)) (word (4 * r + 2)) (bytes-append (word (4 * r)) (word (4 * r + 1)) (each (4 * r)) (each (4 * r + 1))) (each (4 * r + 2)))
      (each (4 * r + 3))

  bytes-last_round : (r : ℕ) (s : List ℕ) → AreBytes (last_round (round_key key r) s)
  unfolding last_round
  bytes-last_round r s =
      bytes-xor (shift_rows (map substituted s)) (round_key key r)
      (bytes-map (λ i. get_or (map substituted s) ((i + 4 * (i % 4)) % 16) 0) (λ i. bytes-map substituted substituted-lt s ((i + 4 * (i % 4)) % 16)) (range_with_len 0 16))
      (bytes-round_key r)

  stream_byte-lt : (i : ℕ) → stream_byte key i < 256
  unfolding stream_byte encrypted
  stream_byte-lt i = bytes-last_round 10 (rounds key _ 9) (i % 16)

  bytes-xored_from : (position : ℕ) (text : List ℕ) → AreBytes text → AreBytes (xored_from key position text)
  bytes-xored_from position [] each = bytes-none
  bytes-xored_from position (b ∷ bs) each =
      bytes-cons (bit_xor b (stream_byte key position)) (xored_from key (position + 1) bs) (xor_of_8 b (stream_byte key position) (each 0) (stream_byte-lt position))
      (bytes-xored_from (position + 1) bs (λ j. each (suc j)))

  -- a ciphertext has bytes, where the key and the file have
  pub bytes-xored : (file : List ℕ) → AreBytes file → AreBytes (xored key file)
  bytes-xored file each = bytes-xored_from 0 file each

-- what is encrypted twice at its position of the stream is the text
pub xored_from-again : (key : List ℕ) (position : ℕ) (text : List ℕ) → xored_from key position (xored_from key position text) ≡ text
xored_from-again key position [] = refl
xored_from-again key position (b ∷ bs) =
    let stream : ℕ = stream_byte key position in
    let back : bit_xor (bit_xor b stream) stream ≡ b = xor_assoc b stream stream ∙ ap (bit_xor b) (xor_self stream) ∙ xor_zero_r b in
    (λ i. back i ∷ xored_from-again key (position + 1) bs i)

-- what is encrypted twice is the file
pub xored-xored : (key file : List ℕ) → xored key (xored key file) ≡ file
xored-xored key file = xored_from-again key 0 file
