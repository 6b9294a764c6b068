-- Base32 by RFC 4648, in lower case and without padding.
use Rattle.std.specs.Prelude.{◌≡◌, ℕ, zero, suc, ◌+◌, ◌-◌, ◌*◌, ◌/◌, ◌%◌, ◌<◌, nat_lt}
use Rattle.std.specs.Prelude.{if◌then◌else◌, List, [], ◌∷◌, ◌++◌, length, map, slice_index}
use Rattle.std.specs.List.{flat_map}

-- the lowest bits of a number, so many, the highest of them first
unfoldable pub bits : ℕ → ℕ → List ℕ
bits zero n = []
bits (suc count) n = bits count (n / 2) ++ (n % 2) ∷ []

-- a string of bits in groups of five, the last filled with zero bits: the number of each group
unfoldable pub groups : List ℕ → List ℕ
groups [] = []
groups (a ∷ []) = (16 * a) ∷ []
groups (a ∷ b ∷ []) = (16 * a + 8 * b) ∷ []
groups (a ∷ b ∷ c ∷ []) = (16 * a + 8 * b + 4 * c) ∷ []
groups (a ∷ b ∷ c ∷ d ∷ []) = (16 * a + 8 * b + 4 * c + 2 * d) ∷ []
groups (a ∷ b ∷ c ∷ d ∷ e ∷ rest) = (16 * a + 8 * b + 4 * c + 2 * d + e) ∷ groups rest

-- what stands for a number below 32: 'a' to 'z', then '2' to '7'
unfoldable pub letter : ℕ → ℕ
letter n = if nat_lt n 26 then 97 + n else 50 + (n - 26)

-- the base32 text of some bytes: their bits, in groups of five, each as a letter
unfoldable pub base32 : List ℕ → List ℕ
base32 bytes = map letter (groups (flat_map (bits 8) bytes))

-- so many bytes
pub record IsBytes (count : ℕ) (bytes : List ℕ) : Type 0 where
  pub len : length bytes ≡ count
  pub below : (i : ℕ) → slice_index bytes i < 256
