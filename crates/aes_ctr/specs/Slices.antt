-- Sixteen blocks side by side, as the code keeps them: eight slices of 32 bytes, whose low halves
-- hold the blocks 0, 2, 4, .. and whose high halves the blocks 1, 3, 5, .. Slice i holds bit i of
-- each byte of the blocks, that of byte p of block j as bit j / 2 of byte p of its half.
use Rattle.std.specs.Prelude.{◌≡◌, ℕ, ◌+◌, ◌*◌, ◌/◌, ◌%◌, List, [], ◌∷◌, All, length, map}
use Rattle.std.specs.Prelude.{slice_index}
use Rattle.std.specs.Int.{bit_at}
use Rattle.std.specs.List.{range_with_len}

pub record AreSlices (slices : List (List ℕ)) : Type 0 where
  pub eight : length slices ≡ 8
  pub each : All (λ (slice : List ℕ). length slice ≡ 32) slices

-- the number of these bits, the lowest first
abbrev pub number_of : List ℕ → ℕ
number_of [] = 0
number_of (bit ∷ bits) = bit + 2 * number_of bits

-- what a slice holds of byte p of block j
abbrev pub bit_in : List ℕ → ℕ → ℕ → ℕ
bit_in slice j p = bit_at (slice_index slice (16 * (j % 2) + p)) (j / 2)

-- the bits of byte p of block j, one from each slice
abbrev pub bits_in : List (List ℕ) → ℕ → ℕ → List ℕ
bits_in slices j p = map (λ (slice : List ℕ). bit_in slice j p) slices

-- block j
abbrev pub block_in : List (List ℕ) → ℕ → List ℕ
block_in slices j = map (λ (p : ℕ). number_of (bits_in slices j p)) (range_with_len 0 16)

-- a slice with the bytes of each half moved in the same way: byte p of a half comes from byte `from
-- p`
abbrev pub moved_in_halves : (ℕ → ℕ) → List ℕ → List ℕ
moved_in_halves from slice = map
    (λ (q : ℕ). slice_index slice (16 * (q / 16) + from (q % 16))) (range_with_len 0 32)

-- each column of a block turned up by one row
abbrev pub turned_columns : List ℕ → List ℕ
turned_columns block = map
    (λ (p : ℕ). slice_index block (4 * (p / 4) + (p + 1) % 4)) (range_with_len 0 16)
