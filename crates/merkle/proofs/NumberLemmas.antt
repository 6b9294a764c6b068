-- The numbers of nodes.
use Rattle.std.proofs.Common.{◌≡◌, ℕ, zero, suc, ◌+◌, ◌-◌, ◌*◌, ◌/◌, ◌^◌, ◌<◌, ◌≤◌, List, [], ◌∷◌, length, map, get_or, ap, refl, ◌∙◌, length-append, arith}
use Rattle.std.specs.List.{range_with_len}
use Rattle.std.proofs.Math.Nat.{pow-le-pow_right, pow-suc}
use Rattle.std.proofs.lemmas.List.{get_or_append_left, get_or_at, get_or-append_right}
use Rattle.std.proofs.lemmas.List.FromFn.{get_or-map-range_with_len, length-map-range_with_len}
use Rattle.std.proofs.lemmas.Nat.{shr_below}
use Rattle.merkle.specs.Tree.{needed_numbers, node_number, sibling}
use Rattle.merkle.proofs.PathLemmas.{sibling_below}

-- the nodes of the rows between the root and the last row
upper : ℕ → ℕ → List ℕ
upper m leaf = map (λ row. node_number row (sibling (leaf / 2 ^ (suc m - row)))) (range_with_len 1 m)

pub needed_above : (height leaf position : ℕ) → position + 1 < height
    → get_or (needed_numbers height leaf) position 0 ≡ 2 ^ (position + 1) - 1 + sibling (leaf / 2 ^ (height - (position + 1)))
needed_above zero leaf position h = absurd (omega arith)
needed_above (suc m) leaf position h =
    let f : ℕ → ℕ = λ row. node_number row (sibling (leaf / 2 ^ (suc m - row))) in
    get_or_append_left (map f (range_with_len 1 m)) _ 0 position (omega (arith, length-map-range_with_len f 1 m))
    ∙ get_or-map-range_with_len f 1 m position (position + 1) 0 (omega arith) (omega arith)

pub needed_left : (height leaf position : ℕ) → position + 1 ≡ height
    → get_or (needed_numbers height leaf) position 0 ≡ 2 ^ height - 1 + leaf / 2 * 2
needed_left zero leaf position h = absurd (omega arith)
needed_left (suc m) leaf position h =
    let f : ℕ → ℕ = λ row. node_number row (sibling (leaf / 2 ^ (suc m - row))) in
    get_or_at (map f (range_with_len 1 m)) _ _ 0 position (omega (arith, length-map-range_with_len f 1 m))

pub needed_right : (height leaf position : ℕ) → 0 < height → position ≡ height
    → get_or (needed_numbers height leaf) position 0 ≡ 2 ^ height - 1 + leaf / 2 * 2 + 1
needed_right zero leaf position some h = absurd (omega arith)
needed_right (suc m) leaf position some h =
    let f : ℕ → ℕ = λ row. node_number row (sibling (leaf / 2 ^ (suc m - row))) in
    let one : position - m ≡ 1 = omega arith in
    get_or-append_right (map f (range_with_len 1 m)) _ m position 0 (length-map-range_with_len f 1 m) (omega arith)
    ∙ ap (λ i. get_or (node_number (suc m) (leaf / 2 * 2) ∷ node_number (suc m) (leaf / 2 * 2 + 1) ∷ []) i 0) one
    ∙ omega arith

pub length-needed_numbers : (height leaf : ℕ) → length (needed_numbers height leaf) ≡ height + 1
length-needed_numbers zero leaf = refl
length-needed_numbers (suc m) leaf =
    let f : ℕ → ℕ = λ row. node_number row (sibling (leaf / 2 ^ (suc m - row))) in
    length-append (map f (range_with_len 1 m)) _ ∙ omega (arith, length-map-range_with_len f 1 m)

-- the position of the node some rows above a leaf
pub position_above : (height leaf i : ℕ) → i < height → leaf < 2 ^ height → leaf / 2 ^ i < 2 ^ (height - i)
position_above height leaf i low inside =
    let sum : height - i + i ≡ height = omega arith in
    shr_below leaf (height - i) i (rw sum inside)

-- the position of its sibling
pub sibling_above : (height leaf i : ℕ) → i < height → leaf < 2 ^ height → sibling (leaf / 2 ^ i) < 2 ^ (height - i)
sibling_above height leaf i low inside =
    sibling_below (height - i) (leaf / 2 ^ i) (omega arith) (position_above height leaf i low inside)

-- a row that is no lower has room for as many numbers
pub room_below : (row height : ℕ) → row ≤ height → 2 ^ (row + 1) ≤ 2 ^ (height + 1)
room_below row height low = pow-le-pow_right {n = 2} (omega arith) {i = row + 1} {j = height + 1} (omega arith)

-- the left one of two children
pub left_below : (height leaf : ℕ) → 0 < height → leaf < 2 ^ height → leaf / 2 * 2 + 1 < 2 ^ height
left_below zero leaf some inside = absurd (omega arith)
left_below (suc m) leaf some inside = omega (arith, pow-suc 2 m)
