-- Whole shares as a source of pieces.
use Rattle.std.specs.Prelude.{◌≡◌, ℕ, List, [], length, take, drop, slice_index_or, All}

-- the length of the first share
abbrev pub length_of : List (List ℕ) → ℕ
length_of shares = length (slice_index_or shares 0 [])

-- all shares have the length of the first
abbrev pub HaveOneLength : List (List ℕ) → Type 0
HaveOneLength shares = All (λ (share : List ℕ). length share ≡ length_of shares) shares

-- the piece of a share from an offset on, of so many bytes
abbrev pub piece_of : List (List ℕ) → ℕ → ℕ → ℕ → List ℕ
piece_of shares share offset len = take len (drop offset (slice_index_or shares share []))
