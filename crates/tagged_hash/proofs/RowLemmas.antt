-- The pieces of a text, and their hashes.
use Rattle.std.proofs.Common.{◌≡◌, ℕ, ◌+◌, ◌-◌, ◌*◌, ◌<◌, ◌≤◌, List, length, take, drop, sym, ap, add-mul, ◌∙◌, arith}
use Rattle.std.proofs.Math.Nat.{mul-le-mul_right}
use Rattle.std.proofs.lemmas.Simd.{length-chunk}
use Rattle.tagged_hash.specs.TaggedHash.{tagged_hash}
use Rattle.tagged_hash.specs.declared.tag.Tag.{Tag}

-- the hash of piece i
abbrev pub hash_at : Tag → ℕ → List ℕ → ℕ → List ℕ
hash_at tag size text i = tagged_hash tag (take size (drop (i * size) text))

-- what so many pieces take more than fewer
pub pieces_more : (a e size : ℕ) → a ≤ e → a * size + (e - a) * size ≡ e * size
pieces_more a e size below =
    let e_is : a + (e - a) ≡ e = omega arith in
    sym (add-mul a (e - a) size) ∙ ap (λ (n : ℕ). n * size) e_is

-- where there are so many whole pieces, those from one on have room behind it
pub room_behind : (a e whole size len : ℕ) → a ≤ e → e ≤ whole → whole * size ≤ len
    → (e - a) * size ≤ len - a * size
room_behind a e whole size len low high room =
    omega (arith, pieces_more a e size low, mul-le-mul_right size high, room)

-- among as many whole pieces, each is whole
pub length-piece : (text : List ℕ) (size i count : ℕ) → i < count → count * size ≤ length text
    → length (take size (drop (i * size) text)) ≡ size
length-piece text size i count below room =
    let high : i + 1 ≤ count = omega arith in
    let low : i ≤ i + 1 = omega arith in
    let one : i + 1 - i ≡ 1 = omega arith in
    length-chunk (i * size) size text
    (omega (arith, pieces_more i (i + 1) size low, ap (λ (n : ℕ). n * size) one, mul-le-mul_right size high, room))
