-- A text that is padded to a multiple of k, and its pieces.
use Rattle.std.proofs.Common.{◌≡◌, ℕ, zero, suc, ◌+◌, ◌-◌, ◌*◌, ◌/◌, ◌%◌, ◌<◌, ◌≤◌, List, [], ◌∷◌, ◌++◌, length, take, drop, map, min, replicate, inl, inr, ap, sym, subst, ◌∙◌, arith}
use Rattle.std.proofs.lemmas.List.{append-nil, drop-append-le, length-append, length-drop, length-replicate, length-take, take-append-le, take_all}
use Rattle.std.proofs.lemmas.Grind.{div_ceil_times}
use Rattle.std.proofs.Math.Nat.{dvd-sub, dvd-mul_left}
use Rattle.std.proofs.lemmas.Nat.Gcd.{le_of_dvd, mod-eq-zero_of_dvd}
use Rattle.std.specs.Int.{◌∣◌}
use Rattle.std.proofs.lemmas.Bool.{cases_lt}
use Rattle.ueb.specs.Shape.{rounded_up}
use Rattle.share_layout.specs.Pieces.{pieces}
use Rattle.file_encoding.specs.Encoding.{padded_segment}

-- multiples of k less than k apart are one
multiples_apart : (k a b : ℕ) → k ∣ a → k ∣ b → a < b → b < a + k → ⊥
multiples_apart k a b p q above near =
    let far : k ≤ b - a = le_of_dvd (omega arith) (dvd-sub k q p) in
    omega arith

one_multiple : (k a b n : ℕ) → k ∣ a → k ∣ b → n ≤ a → a < n + k → n ≤ b → b < n + k → a ≡ b
one_multiple k a b n p q above near over close =
    elim (cases_lt a b) [
      | inl below ↦ absurd (multiples_apart k a b p q below (omega arith))
      | inr other ↦ elim (cases_lt b a) [
        | inl below ↦ absurd (multiples_apart k b a q p below (omega arith))
        | inr same ↦ omega arith
      ]
    ]

-- the multiple of k that is n or more, and less than k more
pub rounded_up-is : (n k m : ℕ) → 0 < k → k ∣ m → n ≤ m → m < n + k → rounded_up n k ≡ m
rounded_up-is n k m some whole over close =
    let bounds = div_ceil_times n k some in
    one_multiple k (rounded_up n k) m n (dvd-mul_left k (n / k + min 1 (n % k))) whole bounds.0 bounds.1 over close

pub rounded_up-over : (n k : ℕ) → 0 < k → n ≤ rounded_up n k
rounded_up-over n k some = (div_ceil_times n k some).0

pub rounded_up-near : (n k : ℕ) → 0 < k → rounded_up n k < n + k
rounded_up-near n k some = (div_ceil_times n k some).1

pub rounded_up-whole : (n k : ℕ) → k ∣ rounded_up n k
rounded_up-whole n k = dvd-mul_left k (n / k + min 1 (n % k))

-- a multiple stays
pub rounded_up-multiple : (n k : ℕ) → 0 < k → k ∣ n → rounded_up n k ≡ n
rounded_up-multiple n k some whole = rounded_up-is n k n some whole (omega arith) (omega arith)

-- what is taken off, a multiple of k, is taken off what it is rounded up to
rounded_up-less : (n size k : ℕ) → 0 < k → k ∣ size → size ≤ n → rounded_up (n - size) k ≡ rounded_up n k - size
rounded_up-less n size k some whole fits =
    let over = rounded_up-over n k some in
    let near = rounded_up-near n k some in
    rounded_up-is (n - size) k (rounded_up n k - size) some (dvd-sub k (rounded_up-whole n k) whole) (omega arith) (omega arith)

-- it is no more than any multiple that is n or more
pub rounded_up-least : (n k m : ℕ) → 0 < k → k ∣ m → n ≤ m → rounded_up n k ≤ m
rounded_up-least n k m some whole over =
    elim (cases_lt m (rounded_up n k)) [
      | inl below ↦ (let near = rounded_up-near n k some in absurd (multiples_apart k m (rounded_up n k) whole (rounded_up-whole n k) below (omega arith)))
      | inr above ↦ above
    ]

-- a text of a multiple of k bytes needs no padding
padded-multiple : (k : ℕ) (text : List ℕ) → 0 < k → k ∣ length text → padded_segment k text ≡ text
padded-multiple k text some whole =
    let none : rounded_up (length text) k - length text ≡ 0 = let is = rounded_up-multiple (length text) k some whole in omega arith in
    ap (λ n. text ++ replicate n 0) none ∙ append-nil text

pub length-padded : (k : ℕ) (text : List ℕ) → 0 < k → length (padded_segment k text) ≡ rounded_up (length text) k
length-padded k text some =
    let over = rounded_up-over (length text) k some in
    length-append text (replicate (rounded_up (length text) k - length text) 0)
    ∙ ap (λ n. length text + n) (length-replicate (rounded_up (length text) k - length text) 0)
    ∙ omega arith

-- a padded text has a multiple of k bytes
pub padded-whole : (k : ℕ) (text : List ℕ) → 0 < k → length (padded_segment k text) % k ≡ 0
padded-whole k text some = ap (λ n. n % k) (length-padded k text some) ∙ mod-eq-zero_of_dvd k (rounded_up-whole (length text) k)

-- the first piece of a padded text that has more
first_piece : (k size : ℕ) (text : List ℕ) → 0 < k → k ∣ size → size ≤ length text
    → take size (padded_segment k text) ≡ padded_segment k (take size text)
first_piece k size text some whole more =
    let long : length (take size text) ≡ size = let e = length-take size text in omega (arith, e) in
    take-append-le size text (replicate (rounded_up (length text) k - length text) 0) more
    ∙ sym (padded-multiple k (take size text) some (subst (λ n. k ∣ n) (sym long) whole))

-- the rest of it
rest_padded : (k size : ℕ) (text : List ℕ) → 0 < k → k ∣ size → size ≤ length text
    → drop size (padded_segment k text) ≡ padded_segment k (drop size text)
rest_padded k size text some whole more =
    let left : length (drop size text) ≡ length text - size = length-drop size text in
    let less = rounded_up-less (length text) size k some whole more in
    let over = rounded_up-over (length text) k some in
    let near = rounded_up-near (length text) k some in
    let same : rounded_up (length text) k - length text ≡ rounded_up (length (drop size text)) k - length (drop size text) =
    (let gap : rounded_up (length text) k - length text ≡ (rounded_up (length text) k - size) - (length text - size) = omega arith in
    gap ∙ λ i. sym less i - (length text - size)) ∙ λ i. rounded_up (sym left i) k - sym left i in
    drop-append-le size text (replicate (rounded_up (length text) k - length text) 0) more ∙ ap (λ n. drop size text ++ replicate n 0) same

-- the pieces of a padded text are the pieces of the text, each padded
pub pieces-padded : (k size n : ℕ) (text : List ℕ) → 0 < k → k ∣ size → n * size < length text → length text ≤ n * size + size
    → pieces (suc n) size (padded_segment k text) ≡ map (padded_segment k) (pieces (suc n) size text)
pieces-padded k size zero text some whole more fits =
    let short : length text ≤ size = omega arith in
    let least : length (padded_segment k text) ≤ size = subst (λ n. n ≤ size) (sym (length-padded k text some)) (rounded_up-least (length text) k size some whole short) in
    ap (λ s. s ∷ []) (take_all size (padded_segment k text) least ∙ ap (padded_segment k) (sym (take_all size text short)))
pieces-padded k size (suc n) text some whole more fits =
    let long : size ≤ length text = omega arith in
    let left : length (drop size text) ≡ length text - size = length-drop size text in
    (λ i. first_piece k size text some whole long i ∷ pieces (suc n) size (rest_padded k size text some whole long i))
    ∙ ap (λ ps. padded_segment k (take size text) ∷ ps)
    (pieces-padded k size n (drop size text) some whole (omega (arith, left)) (omega (arith, left)))
