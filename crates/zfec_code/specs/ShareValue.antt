-- The value of a share as a formula: Lagrange's interpolation through the points of the k primary
-- shares.
use Rattle.std.specs.Prelude.{ℕ, ◌+◌, ◌*◌, List, map, slice_index}
use Rattle.std.specs.List.{range_with_len}
use Rattle.zfec_code.specs.Field.{product, inverse, point_of}
use Rattle.zfec_code.specs.Rows.{primary_points, product_without, weighted_sum}

-- what primary share m counts at x: the product of (x - x_l) / (x_m - x_l) over the other primary
-- shares l
unfoldable pub lagrange_coefficient : ℕ → ℕ → ℕ → ℕ
lagrange_coefficient k x m =
    product (product_without (primary_points k) m x k)
    (inverse (product_without (primary_points k) m (point_of m) k))

-- share i of the column: the value at its point of the polynomial of degree below k that takes the
-- k bytes of the column at the points of the primary shares
unfoldable pub share_value : ℕ → ℕ → (ℕ → ℕ) → ℕ
share_value k i column = weighted_sum k (lagrange_coefficient k (point_of i)) column

-- share i of the k primary blocks of this size that `primaries` joins
abbrev pub share_block : ℕ → ℕ → ℕ → List ℕ → List ℕ
share_block k i size primaries =
    map (λ t. share_value k i (λ j. slice_index primaries (j * size + t))) (range_with_len 0 size)
