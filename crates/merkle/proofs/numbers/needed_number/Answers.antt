use Rattle.std.proofs.Common.{◌≡◌, ◌+◌, ◌-◌, ◌^◌, ◌<◌, ℕ, get_or, sym, ◌∙◌, arith, add-one}
use Rattle.std.proofs.Math.Nat.{pow-suc}
use Rattle.merkle.specs.Tree.{needed_numbers, sibling_number}
use Rattle.merkle.proofs.NumberLemmas.{left_below, needed_above, needed_left, needed_right}
use Rattle.merkle.proofs.numbers.needed_number.Goals as goal

-- the rows between the root and the last, counted from the leaf
number_above : (height leaf position : ℕ) → position + 1 < height
    → sibling_number height leaf (height - position - 1) ≡ get_or (needed_numbers height leaf) position 0
number_above height leaf position above =
    let up : height - position - 1 ≡ height - (position + 1) = omega arith in
    let down : height - (height - (position + 1)) ≡ position + 1 = omega arith in
    rw (up, down) (sym (needed_above height leaf position above))

pub returns-then-position-height-clause-value : goal.returns-then-position-height-clause-value
returns-then-position-height-clause-value c =
    c.sibling_number.ensures.value ∙ number_above c.args.height c.args.leaf c.args.position (omega arith)

pub returns-then-position-height-2-clause-value : goal.returns-then-position-height-2-clause-value
returns-then-position-height-2-clause-value c =
    c.node_number-left.ensures.value ∙ sym (needed_left c.args.height c.args.leaf c.args.position (omega arith))

pub returns-else-position-height-2-clause-value : goal.returns-else-position-height-2-clause-value
returns-else-position-height-2-clause-value c =
    omega (arith, c.node_number-left.ensures.value, needed_right c.args.height c.args.leaf c.args.position (omega arith) (omega arith))

pub returns-else-position-height-2-clause-below : goal.returns-else-position-height-2-clause-below
returns-else-position-height-2-clause-below c =
    let double : 2 ^ (c.args.height + 1) ≡ 2 ^ c.args.height + 2 ^ c.args.height = rw add-one (omega (arith, pow-suc 2 c.args.height)) in
    omega (arith, double, c.node_number-left.ensures.value, left_below c.args.height c.args.leaf (omega arith) c.requires.inside)
