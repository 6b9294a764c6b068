use Rattle.std.proofs.Common.{◌≡◌, ◌+◌, ◌-◌, ◌*◌, ◌/◌, ◌%◌, ◌^◌, ◌≤◌, ℕ, arith}
use Rattle.std.proofs.Math.Nat.{pow-le-pow_right}
use Rattle.std.proofs.lemmas.Nat.{one_shl}
use Rattle.merkle.specs.Nodes.{own_end}
use Rattle.merkle.specs.Tree.{height}
use Rattle.merkle.proofs.HeightLemmas.{height_low}
use Rattle.merkle.proofs.OwnRows.{own_end_inside}
use Rattle.merkle.proofs.padding.own_end.Goals as goal

-- the number that the code computes
sum : (n h row : ℕ) → row ≤ 20 → h ≡ height n → 1 * 2 ^ row % 18446744073709551616 + (n - 1) / 2 ^ (h - row) ≡ own_end n row
sum n h row few is =
    let first = one_shl row 64 (omega (arith, few)) in
    (λ i. first i + (n - 1) / 2 ^ (is i - row))

pub overflow_sub-last-2 : goal.overflow_sub-last-2
overflow_sub-last-2 c = omega (arith, c.requires.row, c.height.ensures.value)

pub overflow_shr-last : goal.overflow_shr-last
overflow_shr-last c =
    omega (arith, height_low _ c.height.result 20 c.requires.few c.height.ensures.least)

pub overflow_shl-result : goal.overflow_shl-result
overflow_shl-result c =
    omega (arith, height_low _ c.height.result 20 c.requires.few c.height.ensures.least, c.requires.row, c.height.ensures.value)

pub overflow_add-result : goal.overflow_add-result
overflow_add-result c =
    let low = height_low _ c.height.result 20 c.requires.few c.height.ensures.least in
    let few : c.args.row ≤ 20 = omega (arith, low, c.requires.row, c.height.ensures.value) in
    omega (arith, sum c.args.leaf_count c.height.result c.args.row few c.height.ensures.value, own_end_inside c.args.leaf_count c.requires.some c.args.row c.requires.row, pow-le-pow_right {n = 2} (omega arith) {i = c.args.row} {j = 20} few)

pub returns-clause-value : goal.returns-clause-value
returns-clause-value c =
    let low = height_low _ c.height.result 20 c.requires.few c.height.ensures.least in
    sum c.args.leaf_count c.height.result c.args.row (omega (arith, low, c.requires.row, c.height.ensures.value)) c.height.ensures.value

pub returns-clause-inside : goal.returns-clause-inside
returns-clause-inside c =
    let low = height_low _ c.height.result 20 c.requires.few c.height.ensures.least in
    let few : c.args.row ≤ 20 = omega (arith, low, c.requires.row, c.height.ensures.value) in
    omega (arith, sum c.args.leaf_count c.height.result c.args.row few c.height.ensures.value, own_end_inside c.args.leaf_count c.requires.some c.args.row c.requires.row)
