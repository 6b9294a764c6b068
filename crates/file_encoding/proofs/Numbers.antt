-- The nodes that a share carries are nodes of its tree.
use Rattle.std.proofs.Common.{◌≡◌, ℕ, zero, suc, ◌+◌, ◌-◌, ◌*◌, ◌/◌, ◌^◌, ◌<◌, ◌≤◌, List, length, get_or, inl, inr, sym, subst, arith}
use Rattle.std.proofs.Math.Nat.{pow-suc}
use Rattle.std.proofs.Math.Pow.{pow_mono}
use Rattle.std.proofs.lemmas.Nat.{pow_pos, shr_below}
use Rattle.std.proofs.lemmas.Bool.{cases_lt, cases_eq}
use Rattle.std.proofs.lemmas.Grind.{get_or_default_zero}
use Rattle.lemmas.proofs.Numbers.{next_power}
use Rattle.merkle.specs.Tree.{height, needed_numbers, sibling, tree_nodes}
use Rattle.merkle.proofs.HeightLemmas.{height_room, height_below}
use Rattle.merkle.proofs.PathLemmas.{sibling_below}
use Rattle.merkle.proofs.TreeLemmas.{length-tree_nodes}
use Rattle.merkle.proofs.NumberLemmas.{length-needed_numbers, needed_above, needed_left, needed_right}

-- half of a leaf's position
half_below : (h leaf : ℕ) → 0 < h → leaf < 2 ^ h → leaf / 2 * 2 + 2 ≤ 2 ^ h
half_below zero leaf some inside = absurd (omega arith)
half_below (suc h) leaf some inside = omega (arith, pow-suc 2 h)

above_below : (h leaf position : ℕ) → position + 1 < h → leaf < 2 ^ h → 2 ^ (position + 1) - 1 + sibling (leaf / 2 ^ (h - (position + 1))) + 1 < 2 ^ (h + 1)
above_below h leaf position low inside =
    let row : ℕ = position + 1 in
    let sum : row + (h - row) ≡ h = omega arith in
    let at = sibling_below row (leaf / 2 ^ (h - row)) (omega arith) (shr_below leaf row (h - row) (rw sum inside)) in
    let room : 2 ^ row ≤ 2 ^ h = pow_mono (omega arith) in
    omega (arith, at, room, next_power h, pow_pos row)

-- each of the numbers is that of a node
pub needed-below : (h leaf position : ℕ) → position < length (needed_numbers h leaf) → leaf < 2 ^ h → get_or (needed_numbers h leaf) position 0 + 1 < 2 ^ (h + 1)
needed-below zero leaf zero there inside = omega arith
needed-below zero leaf (suc position) there inside = absurd (omega arith)
needed-below (suc m) leaf position there inside =
    let h : ℕ = suc m in
    let all = length-needed_numbers h leaf in
    let half = half_below h leaf (omega arith) inside in
    let twice = next_power h in
    elim (cases_lt (position + 1) h) [
      | inl low ↦ subst (λ n. n + 1 < 2 ^ (h + 1)) (sym (needed_above h leaf position low)) (above_below h leaf position low inside)
      | inr high ↦ elim (cases_eq (position + 1) h) [
        | inl last ↦ subst (λ n. n + 1 < 2 ^ (h + 1)) (sym (needed_left h leaf position last)) (omega (arith, half, twice, pow_pos h))
        | inr over ↦ subst (λ n. n + 1 < 2 ^ (h + 1)) (sym (needed_right h leaf position (omega arith) (omega (arith, all)))) (omega (arith, half, twice, pow_pos h))
      ]
    ]

-- so they are below the number of the nodes
pub needed-inside : (leaves : List (List ℕ)) (leaf position d : ℕ) → leaf < length leaves → position < length (needed_numbers (height (length leaves)) leaf)
    → get_or (needed_numbers (height (length leaves)) leaf) position d < length (tree_nodes leaves)
needed-inside leaves leaf position d inside there =
    let h : ℕ = height (length leaves) in
    let room = height_room (length leaves) in
    let below = needed-below h leaf position there (omega (arith, room)) in
    let all = length-tree_nodes leaves in
    subst (λ n. n < length (tree_nodes leaves)) (sym (get_or_default_zero (needed_numbers h leaf) position d there)) (omega (arith, below, all))

-- of 256 leaves it has at most 511 nodes
pub nodes-few : (leaves : List (List ℕ)) → length leaves ≤ 256 → length (tree_nodes leaves) ≤ 511
nodes-few leaves few =
    let low : height (length leaves) ≤ 8 = height_below (length leaves) 8 few in
    let all : 2 ^ (height (length leaves) + 1) ≤ 2 ^ 9 = pow_mono {j = 9} (omega (arith, low)) in
    omega (arith, all, length-tree_nodes leaves)
