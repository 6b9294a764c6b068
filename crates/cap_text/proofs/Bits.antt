-- The bits of a number.
use Rattle.std.proofs.Common.{◌≡◌, ℕ, zero, suc, ◌+◌, ◌*◌, ◌/◌, ◌%◌, ◌^◌, ◌<◌, List, [], ◌∷◌, ◌++◌, length, replicate, refl, sym, ap, ◌∙◌, arith, length-append, append_assoc, append-nil}
use Rattle.std.proofs.Math.Nat.{pow-suc}
use Rattle.std.proofs.lemmas.List.{replicate_more, same_from_push}
use Rattle.std.specs.List.{AllByRecursion, flat_map}
use Rattle.cap_text.specs.Base32.{bits}

pub length-bits : (count n : ℕ) → length (bits count n) ≡ count
unfolding bits
length-bits zero n = refl
length-bits (suc count) n = omega (arith, length-append (bits count (n / 2)) ((n % 2) ∷ []), length-bits count (n / 2))

-- the bits of two numbers, one after the other, are those of one number
pub bits-joined : (low high m n count joined : ℕ) → count ≡ high + low → joined ≡ m * 2 ^ low + n → n < 2 ^ low
    → bits count joined ≡ bits high m ++ bits low n
unfolding bits
bits-joined zero high m n count joined counts numbers fits =
    let same_count : count ≡ high = omega arith in
    let same_number : joined ≡ m = omega arith in
    rw (same_count, same_number) (sym (append-nil (bits high m)))
bits-joined (suc low) high m n zero joined counts numbers fits = absurd (omega arith)
bits-joined (suc low) high m n (suc count) joined counts numbers fits =
    let doubled : 2 ^ suc low ≡ 2 ^ low * 2 = pow-suc 2 low in
    let twice : m * 2 ^ suc low ≡ m * 2 ^ low * 2 = rw doubled (omega arith) in
    let half : joined / 2 ≡ m * 2 ^ low + n / 2 = omega (arith, numbers, twice) in
    let last : joined % 2 ≡ n % 2 = omega (arith, numbers, twice) in
    let more = bits-joined low high m (n / 2) count (joined / 2) (omega arith) half (omega (arith, doubled)) in
    rw (last, more) (append_assoc (bits high m) (bits low (n / 2)) ((n % 2) ∷ []))

-- no bit of 0 is set
pub bits-zero : (count : ℕ) → bits count 0 ≡ replicate count 0
unfolding bits
bits-zero zero = refl
bits-zero (suc count) =
    let more : count + 1 ≡ suc count = omega arith in
    ap (λ (front : List ℕ). front ++ 0 ∷ []) (bits-zero count) ∙ replicate_more count 0 ∙ ap (λ (k : ℕ). replicate k 0) more

-- a number below a power of two has bits of its own
pub bits-injective : (count m n : ℕ) → m < 2 ^ count → n < 2 ^ count → bits count m ≡ bits count n → m ≡ n
unfolding bits
bits-injective zero m n m_fits n_fits same = omega arith
bits-injective (suc count) m n m_fits n_fits same =
    let doubled : 2 ^ suc count ≡ 2 ^ count * 2 = pow-suc 2 count in
    let parts = same_from_push _ _ _ _ same in
    let half : m / 2 ≡ n / 2 = bits-injective count (m / 2) (n / 2) (omega (arith, doubled)) (omega (arith, doubled)) parts.0 in
    omega (arith, half, parts.1)

-- each is 0 or 1
abbrev pub AreBits : List ℕ → Type 0
AreBits bs = AllByRecursion (λ b. b < 2) bs

pub AreBits-append : (xs ys : List ℕ) → AreBits xs → AreBits ys → AreBits (xs ++ ys)
AreBits-append [] ys p q = q
AreBits-append (x ∷ xs) ys p q = (p.0, AreBits-append xs ys p.1 q)

pub AreBits-bits : (count n : ℕ) → AreBits (bits count n)
unfolding bits
AreBits-bits zero n = tt
AreBits-bits (suc count) n = AreBits-append (bits count (n / 2)) ((n % 2) ∷ []) (AreBits-bits count (n / 2)) (omega arith, tt)

pub AreBits-flat_map : (count : ℕ) (numbers : List ℕ) → AreBits (flat_map (bits count) numbers)
AreBits-flat_map count [] = tt
AreBits-flat_map count (n ∷ ns) = AreBits-append (bits count n) (flat_map (bits count) ns) (AreBits-bits count n) (AreBits-flat_map count ns)

pub length-flat_map-bits : (count : ℕ) (numbers : List ℕ) → length (flat_map (bits count) numbers) ≡ count * length numbers
length-flat_map-bits count [] = omega arith
length-flat_map-bits count (n ∷ ns) =
    omega (arith, length-append (bits count n) (flat_map (bits count) ns), length-bits count n, length-flat_map-bits count ns)
