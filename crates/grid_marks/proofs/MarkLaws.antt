-- The text of a mark.
use Rattle.std.proofs.Common.{◌≡◌, ℕ, ◌+◌, ◌<◌, List, ◌++◌, length, take, drop, refl, ap, ◌∙◌, arith, codes}
use Rattle.std.proofs.lemmas.List.{take_at, length-append}
use Rattle.cap_text.specs.Base32.{base32}
use Rattle.cap_text.proofs.Reading.{spelled, sizes}

-- the letters of an identity
letters_16 : (bytes : List ℕ) → length bytes ≡ 16 → length (base32 bytes) ≡ 26
letters_16 bytes len =
    let size = sizes (base32 bytes) bytes (spelled (base32 bytes) bytes refl) in
    omega (arith, size.few, size.total, len)

-- where they stand
pub identity_part : (text identity rest : List ℕ) → length identity ≡ 16
    → text ≡ codes "grid " ++ (base32 identity ++ rest) → take 26 (drop 5 text) ≡ base32 identity
identity_part text identity rest len is =
    ap (λ (xs : List ℕ). take 26 (drop 5 xs)) is ∙ take_at (base32 identity) rest 26 (letters_16 identity len)

-- and that there are so many
pub long_enough : (text identity rest : List ℕ) → length identity ≡ 16
    → text ≡ codes "grid " ++ (base32 identity ++ rest) → length text < 31 → ⊥
long_enough text identity rest len is short =
    let whole : length text ≡ length (codes "grid " ++ (base32 identity ++ rest)) = ap length is in
    let first : length (codes "grid " ++ (base32 identity ++ rest)) ≡ 5 + length (base32 identity ++ rest) =
    length-append (codes "grid ") (base32 identity ++ rest) in
    omega (arith, whole, first, length-append (base32 identity) rest, letters_16 identity len, short)
