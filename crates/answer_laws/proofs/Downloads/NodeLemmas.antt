-- The nodes above a node, by their numbers.
use Rattle.std.proofs.Common.{◌≡◌, ℕ, zero, suc, ◌+◌, ◌-◌, ◌*◌, ◌/◌, ◌^◌, ◌<◌, ◌≤◌, ap, refl, sym, ◌∙◌, arith}
use Rattle.std.proofs.Math.Nat.{div-div-eq-div-mul, div-eq_of_lt, pow-suc}
use Rattle.std.proofs.lemmas.Nat.{pow_pos}
use Rattle.merkle.specs.Partial.{ancestor, parent}
use Rattle.merkle.specs.Tree.{node_number}

-- the node above one that is not the root
pub parent_is : (row position : ℕ) → parent (node_number (suc row) position) ≡ node_number row (position / 2)
parent_is row position = omega (arith, pow-suc 2 row, pow_pos row)

-- the two nodes below the one above a node that is not the root
pub left_is : (row position : ℕ) → 0 < row → 2 * parent (node_number row position) + 1 ≡ node_number row (position / 2 * 2)
left_is zero position some = absurd (omega arith)
left_is (suc row) position some = omega (arith, parent_is row position, pow-suc 2 row, pow_pos row)

pub right_is : (row position : ℕ) → 0 < row → 2 * parent (node_number row position) + 2 ≡ node_number row (position / 2 * 2 + 1)
right_is zero position some = absurd (omega arith)
right_is (suc row) position some = omega (arith, parent_is row position, pow-suc 2 row, pow_pos row)

-- the node so many rows above one, as far as there are rows
pub ancestor_is : (rows row position : ℕ) → rows ≤ row → ancestor rows (node_number row position) ≡ node_number (row - rows) (position / 2 ^ rows)
ancestor_is zero row position low =
    let none : row ≡ row - 0 = omega arith in
    let one : position ≡ position / 1 = omega arith in
    λ i. node_number (none i) (one i)
ancestor_is (suc rows) row position low =
    let next : row - rows ≡ suc (row - suc rows) = omega arith in
    let half : position / 2 ^ rows / 2 ≡ position / 2 ^ suc rows = div-div-eq-div-mul position (2 ^ rows) 2 ∙ ap (λ (n : ℕ). position / n) (sym (pow-suc 2 rows)) in
    ap parent (ancestor_is rows row position (omega arith) ∙ ap (λ (r : ℕ). node_number r (position / 2 ^ rows)) next)
    ∙ parent_is (row - suc rows) (position / 2 ^ rows)
    ∙ ap (node_number (row - suc rows)) half

-- above the root there is the root alone
ancestor_root : (rows : ℕ) → ancestor rows 0 ≡ 0
ancestor_root zero = refl
ancestor_root (suc rows) = ap parent (ancestor_root rows)

pub ancestor_more : (more rows number : ℕ) → ancestor (more + rows) number ≡ ancestor more (ancestor rows number)
ancestor_more zero rows number = let e : 0 + rows ≡ rows = omega arith in ap (λ (n : ℕ). ancestor n number) e
ancestor_more (suc more) rows number =
    let e : suc more + rows ≡ suc (more + rows) = omega arith in
    ap (λ (n : ℕ). ancestor n number) e ∙ ap parent (ancestor_more more rows number)

pub ancestor_top : (rows row position : ℕ) → row ≤ rows → position < 2 ^ row → ancestor rows (node_number row position) ≡ 0
ancestor_top rows row position high inside =
    let sum : rows ≡ rows - row + row = omega arith in
    let flat : row - row ≡ 0 = omega arith in
    let none : position / 2 ^ row ≡ 0 = div-eq_of_lt inside in
    ap (λ (n : ℕ). ancestor n (node_number row position)) sum
    ∙ ancestor_more (rows - row) row (node_number row position)
    ∙ ap (ancestor (rows - row)) (ancestor_is row row position (omega arith) ∙ (λ i. node_number (flat i) (none i)))
    ∙ ancestor_root (rows - row)
