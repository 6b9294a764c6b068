-- A byte and its bits, and what is true of all bytes by trying each.
use Rattle.std.proofs.Common.{◌≡◌, ℕ, zero, suc, ◌+◌, ◌*◌, ◌/◌, ◌^◌, ◌<◌, List, [], ◌∷◌, All, length, map, get_or, sym, ap, subst, pow-suc, zero-add, ext_get_or, ◌%◌, ◌∙◌, arith}
use Rattle.std.specs.Int.{bit_at}
use Rattle.std.specs.List.{AllByRecursion, range_with_len}
use Rattle.std.proofs.lemmas.List.{get_or-map, length-map}
use Rattle.std.proofs.lemmas.Nat.Bits.{bit_at_lowest, bit_at-lt, bit_at-suc}
use Rattle.std.proofs.lemmas.List.Elements.{All-map, recursion_from_All}
use Rattle.std.proofs.lemmas.List.FromFn.{get_or-map-range_with_len}
use Rattle.lemmas.proofs.Ranges.{same_below}
use Rattle.aes_ctr.specs.Slices.{number_of, bit_in, bits_in, block_in}

-- the bits of a byte, the lowest first
abbrev pub bits_of : ℕ → List ℕ
bits_of b = map (bit_at b) (range_with_len 0 8)

-- and the other way round: where the two lists are one, so are the values
pub at_below : {X : Type 0} (f g : ℕ → X) (n : ℕ) → map f (range_with_len 0 n) ≡ map g (range_with_len 0 n) → (p : ℕ) → p < n → f p ≡ g p
at_below {X} f g n same p below =
    sym (get_or-map-range_with_len f 0 n p p (f p) below (zero-add p)) ∙ ap (λ (t : List X). get_or t p (f p)) same
    ∙ get_or-map-range_with_len g 0 n p p (f p) below (zero-add p)

-- a bit of the number of bits
bit_of-number_of : (bits : List ℕ) (i : ℕ) → All (λ b. b < 2) bits → i < length bits → bit_at (number_of bits) i ≡ get_or bits i 0
bit_of-number_of [] i small below = absurd (omega arith)
bit_of-number_of (b ∷ bits) zero small below =
    let low : b < 2 = small 0 0 (omega arith) in
    bit_at_lowest (b + 2 * number_of bits) ∙ omega arith
bit_of-number_of (b ∷ bits) (suc i) small below =
    let low : b < 2 = small 0 0 (omega arith) in
    let half : (b + 2 * number_of bits) / 2 ≡ number_of bits = omega arith in
    bit_at-suc (b + 2 * number_of bits) i ∙ ap (λ (n : ℕ). bit_at n i) half
    ∙ bit_of-number_of bits i (λ k d within. small (suc k) d (omega arith)) (omega arith)

-- the bits of the number of eight bits
bits_again : (bits : List ℕ) → length bits ≡ 8 → All (λ b. b < 2) bits → bits_of (number_of bits) ≡ bits
bits_again bits size small =
    ext_get_or 0 (bits_of (number_of bits)) bits (sym size)
    (λ i below.
    let low : i < 8 = omega arith in
    get_or-map-range_with_len (bit_at (number_of bits)) 0 8 i i 0 low (zero-add i) ∙ bit_of-number_of bits i small (omega arith))

-- the number of a number's bits is that number
number_of-bits : (n x : ℕ) (bits : List ℕ) → length bits ≡ n → x < 2 ^ n → ((i : ℕ) → i < n → get_or bits i 0 ≡ bit_at x i) → number_of bits ≡ x
number_of-bits zero x [] long fits are = omega arith
number_of-bits zero x (b ∷ bits) long fits are = absurd (omega arith)
number_of-bits (suc n) x [] long fits are = absurd (omega arith)
number_of-bits (suc n) x (b ∷ bits) long fits are =
    let low : b ≡ x % 2 = are 0 (omega arith) ∙ bit_at_lowest x in
    let high : number_of bits ≡ x / 2 = number_of-bits n (x / 2) bits (omega arith) (omega (arith, pow-suc 2 n)) (λ i below. are (suc i) (omega arith) ∙ bit_at-suc x i) in
    omega arith

number_lt : (bits : List ℕ) → AllByRecursion (λ b. b < 2) bits → number_of bits < 2 ^ length bits
number_lt [] small = omega arith
number_lt (b ∷ bits) small = omega (arith, number_lt bits small.1, small.0, pow-suc 2 (length bits))

-- a byte of eight bits is below 256
below_256 : (bits : List ℕ) → length bits ≡ 8 → All (λ b. b < 2) bits → number_of bits < 256
below_256 bits size small = ap_lt (number_lt bits (recursion_from_All (λ b. b < 2) bits small))
  where
    ap_lt : number_of bits < 2 ^ length bits → number_of bits < 256
    ap_lt h = subst (λ n. number_of bits < 2 ^ n) size h

pub bits_small : (slices : List (List ℕ)) (j p : ℕ) → All (λ b. b < 2) (bits_in slices j p)
bits_small slices j p = All-map (λ b. b < 2) (λ (s : List ℕ). bit_in s j p) slices (λ k d _. bit_at-lt (get_or (get_or slices k d) (16 * (j % 2) + p) 0) (j / 2))

-- a bit from each slice
pub length-bits_in : (slices : List (List ℕ)) (j p : ℕ) → length (bits_in slices j p) ≡ length slices
length-bits_in slices j p = length-map slices (λ (s : List ℕ). bit_in s j p)

-- What a function on lists of bits does to a byte is told by trying all 256.
module _ (f : ℕ → ℕ) (box : List ℕ → List ℕ)
    (tried : map (λ b. number_of (box (bits_of b))) (range_with_len 0 256) ≡ map f (range_with_len 0 256)) where
  pub boxed : (bits : List ℕ) → length bits ≡ 8 → All (λ b. b < 2) bits → number_of (box bits) ≡ f (number_of bits)
  boxed bits size small =
      let n : ℕ = number_of bits in
      let below : n < 256 = below_256 bits size small in
      ap (λ bs. number_of (box bs)) (sym (bits_again bits size small)) ∙ at_below (λ b. number_of (box (bits_of b))) f 256 tried n below

  -- and so of a block, where it does it to each byte
  pub boxed_block : (slices after : List (List ℕ)) (j : ℕ) → length slices ≡ 8
      → ((p : ℕ) → p < 16 → bits_in after j p ≡ box (bits_in slices j p)) → block_in after j ≡ map f (block_in slices j)
  boxed_block slices after j size each =
      same_below (λ p. number_of (bits_in after j p)) (λ p. f (number_of (bits_in slices j p))) 16
      (λ p lt. ap number_of (each p lt) ∙ boxed (bits_in slices j p) (length-bits_in slices j p ∙ size) (bits_small slices j p))

-- each byte of a block is below 256
pub byte_below : (slices : List (List ℕ)) → length slices ≡ 8 → (j p : ℕ) → number_of (bits_in slices j p) < 256
byte_below slices size j p = below_256 (bits_in slices j p) (length-bits_in slices j p ∙ size) (bits_small slices j p)

-- byte p of block j
pub byte_of_block : (slices : List (List ℕ)) (j p : ℕ) → p < 16 → get_or (block_in slices j) p 0 ≡ number_of (bits_in slices j p)
byte_of_block slices j p below = get_or-map-range_with_len (λ (q : ℕ). number_of (bits_in slices j q)) 0 16 p p 0 below (zero-add p)

-- bit i of byte p of block j, where the block is known
pub bits_of_block : (slices : List (List ℕ)) (block : List ℕ) (j p i : ℕ) → length slices ≡ 8 → block_in slices j ≡ block → p < 16 → i < 8
    → bit_in (get_or slices i []) j p ≡ bit_at (get_or block p 0) i
bits_of_block slices block j p i count is in_block low =
    let bits : List ℕ = bits_in slices j p in
    sym (get_or-map (λ (s : List ℕ). bit_in s j p) slices i [] 0 (omega arith))
    ∙ sym (bit_of-number_of bits i (bits_small slices j p) (omega (arith, length-bits_in slices j p)))
    ∙ ap (λ (n : ℕ). bit_at n i) (sym (byte_of_block slices j p in_block) ∙ ap (λ (l : List ℕ). get_or l p 0) is)

-- bytes with the bits of block j are the block
pub is_block : (slices : List (List ℕ)) (block : List ℕ) (j : ℕ) → length slices ≡ 8 → length block ≡ 16 → ((p : ℕ) → p < 16 → get_or block p 0 < 256)
    → ((p i : ℕ) → p < 16 → i < 8 → bit_at (get_or block p 0) i ≡ bit_in (get_or slices i []) j p) → block ≡ block_in slices j
is_block slices block j count long bytes bits =
    ext_get_or 0 block (block_in slices j) long
    (λ p below.
    let within : p < 16 = omega arith in
    sym (number_of-bits 8 (get_or block p 0) (bits_in slices j p) (length-bits_in slices j p ∙ count) (bytes p within)
    (λ i low. get_or-map (λ (s : List ℕ). bit_in s j p) slices i [] 0 (omega arith) ∙ sym (bits p i within low)))
    ∙ sym (byte_of_block slices j p within))
