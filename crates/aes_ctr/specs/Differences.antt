-- The counters 0 to 255 in sixteen groups of sixteen, as slices after their first round, each kept
-- as what it differs by from the first group.
use Rattle.std.specs.Prelude.{◌≡◌, ◌<◌, ℕ, ◌+◌, ◌*◌, List, [], slice_index_or}
use Rattle.std.specs.Int.{w128, to_be_bytes}
use Rattle.aes_ctr.specs.Aes.{rounds, xor_bytes}
use Rattle.aes_ctr.specs.Slices.{AreSlices, block_in}

-- counter n as a block, after its first round
abbrev pub counter_round : List ℕ → ℕ → List ℕ
counter_round key n = rounds key (to_be_bytes w128 n) 1

-- group g
pub record IsDifference (key : List ℕ) (g : ℕ) (slices : List (List ℕ)) : Type 0 where
  pub are : AreSlices slices
  pub blocks : (j : ℕ) → j < 16
      → block_in slices j ≡ xor_bytes (counter_round key (16 * g + j)) (counter_round key j)

-- all sixteen
abbrev pub AreDifferences : List ℕ → List (List (List ℕ)) → Type 0
AreDifferences key table = (g : ℕ) → g < 16 → IsDifference key g (slice_index_or table g [])
