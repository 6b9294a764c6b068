-- Laws of the shares of primary blocks.
use Rattle.std.specs.Prelude.{◌≡◌, ℕ, ◌<◌, ◌≤◌, List, length, All}
use Rattle.zfec_code.specs.Rows.{AreDistinct}
use Rattle.zfec_code.specs.Shares.{AreSharesOf, IsShareValue}
use Rattle.zfec_code.specs.ShareValue.{share_value}

-- a law: the formula gives share i of the column, by the definition of a share's value
abbrev pub FormulaGivesShares : Type 0
FormulaGivesShares = (k i : ℕ) (column : ℕ → ℕ) → k ≤ 256 → ((j : ℕ) → j < k → column j < 256)
    → IsShareValue k column i (share_value k i column)

-- a law: share i of a column is one value
abbrev pub ShareValuesAreUnique : Type 0
ShareValuesAreUnique = (k i : ℕ) (column : ℕ → ℕ) (v w : ℕ) → k ≤ 256
    → IsShareValue k column i v → IsShareValue k column i w → v ≡ w

-- a law: k blocks are the shares, with k different numbers, of one list of primary blocks at most
abbrev pub PrimariesAreUnique : Type 0
PrimariesAreUnique = (k : ℕ) (primaries others numbers : List ℕ) (blocks : List (List ℕ))
    → 0 < k → k ≤ 256 → length numbers ≡ k → All (λ i. i < 256) numbers → AreDistinct numbers
    → AreSharesOf k primaries numbers blocks → AreSharesOf k others numbers blocks
    → primaries ≡ others
