-- The formula of a share's value is the value of the column's polynomial.
use Rattle.std.proofs.Common.{◌≡◌, ℕ, ◌<◌, ◌≤◌, length, get_or, sym, ap, subst, ◌∙◌, arith}
use Rattle.zfec_code.specs.Field as field
use Rattle.zfec_code.specs.Field.{product, point_of}
use Rattle.zfec_code.proofs.Laws.{product-lt, product_assoc, product_comm}
use Rattle.zfec_code.proofs.Inverses.{product-inverse_right}
use Rattle.zfec_code.proofs.FieldInverses.{inverse-is}
use Rattle.zfec_code.specs.Rows.{primary_points, product_without}
use Rattle.zfec_code.specs.Tables.{IsCoefficient}
use Rattle.zfec_code.specs.Shares.{IsShareValue}
use Rattle.zfec_code.specs.ShareValue.{lagrange_coefficient, share_value}
use Rattle.zfec_code.proofs.Lagrange.{denominator-positive, product-one_right, product_without-lt}
use Rattle.zfec_code.proofs.ShareLemmas.{IsShareValue-from_row, length-points_from, nodes-lt, nodes_distinct, primary_points_are}

-- a primary share's factor at x is its coefficient
lagrange_is : (k x m : ℕ) → k ≤ 256 → m < k
    → (lagrange_coefficient k x m < 256) × IsCoefficient (primary_points k) x m (lagrange_coefficient k x m)
unfolding lagrange_coefficient
lagrange_is k x m few below =
    let nodes = primary_points k in
    let size : length nodes ≡ k = length-points_from 0 k in
    let are = primary_points_are k few in
    let point : get_or nodes m 0 ≡ point_of m = are.points m (omega arith) in
    let d : ℕ = product_without nodes m (point_of m) k in
    let n : ℕ = product_without nodes m x k in
    let d_is : product_without nodes m (get_or nodes m 0) (length nodes) ≡ d = (λ i. product_without nodes m (point i) (size i)) in
    let positive : 0 < d =
    subst (λ (y : ℕ). 0 < y) d_is
    (denominator-positive nodes (nodes-lt nodes (λ j. j) are) (nodes_distinct nodes (λ j. j) are) m (length nodes) (omega (arith, size)) (omega arith)) in
    let fits : d < 256 = product_without-lt nodes m (point_of m) k in
    let byte : n < 256 = product_without-lt nodes m x k in (
      product-lt n (field.inverse d),
      ap (product (product n (field.inverse d))) d_is
          ∙ product_assoc n (field.inverse d) d
          ∙ ap (product n) (product_comm (field.inverse d) d ∙ ap (product d) (inverse-is d positive fits) ∙ product-inverse_right d positive fits)
          ∙ product-one_right n byte
          ∙ ap (product_without nodes m x) (sym size),
    )

pub share_value-is : (k i : ℕ) (column : ℕ → ℕ) → k ≤ 256 → ((j : ℕ) → j < k → column j < 256)
    → IsShareValue k column i (share_value k i column)
unfolding share_value
share_value-is k i column few bytes =
    let size = length-points_from 0 k in
    IsShareValue-from_row k i column (lagrange_coefficient k (point_of i)) few bytes
    record { each = λ m below. lagrange_is k (point_of i) m few (omega (arith, size)) }
