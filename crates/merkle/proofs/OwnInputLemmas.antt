-- What is hashed on a tree's own path is hashed for the tree.
use Rattle.std.proofs.Common.{◌≡◌, ℕ, zero, suc, ◌+◌, ◌-◌, ◌*◌, ◌/◌, ◌%◌, ◌^◌, ◌<◌, ◌≤◌, List, [], ◌∷◌, length, take, drop, inl, inr, slice_index_or, Contains, ap, refl, sym, subst, ◌∙◌, arith, add-one, zero-add, mod-eq_of_lt}
use Rattle.std.proofs.Math.Nat.{div-div-eq-div-mul, mul-le-mul_right, pow-suc}
use Rattle.std.proofs.lemmas.Bool.{cases_eq, cases_lt}
use Rattle.std.proofs.lemmas.List.{drop-drop, drop-take, length-drop, length-take-le, take-take, take_all}
use Rattle.std.proofs.lemmas.List.Elements.{Contains-append_left, Contains-append_right}
use Rattle.std.proofs.lemmas.List.FromFn.{get_or-map-range_with_len}
use Rattle.std.proofs.lemmas.Nat.{mod-pow-add, mod_below, pow-add, pow_pos, shr_below}
use Rattle.lemmas.proofs.Members.{contains_cases}
use Rattle.lemmas.proofs.Numbers.{lt_false}
use Rattle.merkle.specs.Inputs.{AreAmong, OwnPathsAreWithin, node_input, path_inputs, root_inputs}
use Rattle.merkle.specs.Path.{path_root, siblings_of}
use Rattle.merkle.specs.Tree.{height, node, padded, root, sibling, sibling_number, tree_nodes}
use Rattle.merkle.proofs.HeightLemmas.{height_room, lt_true}
use Rattle.merkle.proofs.InputLemmas.{member_here, member_there}
use Rattle.merkle.proofs.PathLemmas.{path_climbs, sibling_below}
use Rattle.merkle.proofs.TreeLemmas.{length-padded_to, padded_to-leaf, tree_nodes_node}

-- ---- the nodes of the halves

-- a node's part of the leaves ends within them
pub part_within : (m row position : ℕ) → row ≤ m → position < 2 ^ row → position * 2 ^ (m - row) + 2 ^ (m - row) ≤ 2 ^ m
part_within m row position low inside =
    let w : ℕ = 2 ^ (m - row) in
    let sum : row + (m - row) ≡ m = omega arith in
    let whole : 2 ^ m ≡ 2 ^ row * w = ap (λ (k : ℕ). 2 ^ k) (sym sum) ∙ pow-add 2 row (m - row) in
    let room : (position + 1) * w ≤ 2 ^ row * w = mul-le-mul_right {m = position + 1} {n = 2 ^ row} w (omega arith) in
    omega (arith, whole, room)

node_left : (m : ℕ) (hashes : List (List ℕ)) (row position : ℕ) → row ≤ m → position < 2 ^ row
    → node (suc m) hashes (suc row) position ≡ node m (take (2 ^ m) hashes) row position
node_left m hashes row position low inside =
    let q : ℕ = m - row in
    let same : suc m - suc row ≡ q = omega arith in
    let start : ℕ = position * 2 ^ q in
    let within : start + 2 ^ q ≤ 2 ^ m = part_within m row position low inside in
    let split : 2 ^ m ≡ start + (2 ^ m - start) = omega arith in
    let half : drop start (take (2 ^ m) hashes) ≡ take (2 ^ m - start) (drop start hashes) =
    ap (λ (n : ℕ). drop start (take n hashes)) split ∙ drop-take start (2 ^ m - start) hashes in
    let part : take (2 ^ q) (drop start (take (2 ^ m) hashes)) ≡ take (2 ^ q) (drop start hashes) =
    ap (take (2 ^ q)) half ∙ take-take (2 ^ q) (2 ^ m - start) (drop start hashes) (omega arith) in
    ap (λ (k : ℕ). root k (take (2 ^ k) (drop (position * 2 ^ k) hashes))) same ∙ ap (root q) (sym part)

node_right : (m : ℕ) (hashes : List (List ℕ)) (row position : ℕ) → row ≤ m
    → node (suc m) hashes (suc row) (2 ^ row + position) ≡ node m (drop (2 ^ m) hashes) row position
node_right m hashes row position low =
    let q : ℕ = m - row in
    let same : suc m - suc row ≡ q = omega arith in
    let sum : row + q ≡ m = omega arith in
    let whole : 2 ^ m ≡ 2 ^ row * 2 ^ q = ap (λ (k : ℕ). 2 ^ k) (sym sum) ∙ pow-add 2 row q in
    let start : (2 ^ row + position) * 2 ^ q ≡ 2 ^ m + position * 2 ^ q = omega (arith, whole) in
    ap (λ (k : ℕ). root k (take (2 ^ k) (drop ((2 ^ row + position) * 2 ^ k) hashes))) same
    ∙ ap (λ (n : ℕ). root q (take (2 ^ q) (drop n hashes))) start
    ∙ ap (λ (l : List (List ℕ)). root q (take (2 ^ q) l)) (sym (drop-drop (position * 2 ^ q) (2 ^ m) hashes))

-- the input of a node, from its two children
abbrev pub children_input : ℕ → List (List ℕ) → ℕ → ℕ → List ℕ
children_input m hashes row position = node_input (node m hashes (row + 1) (2 * position)) (node m hashes (row + 1) (2 * position + 1))

-- what is hashed for an inner node is hashed for the root
pub children_among : (m : ℕ) (hashes : List (List ℕ)) (row position : ℕ) → length hashes ≡ 2 ^ m → row < m → position < 2 ^ row
    → Contains (root_inputs m hashes) (children_input m hashes row position)
children_among zero hashes row position full low inside = absurd (omega arith)
children_among (suc m) hashes zero position full low inside =
    let first : position ≡ 0 = omega arith in
    let twice : 2 ^ suc m ≡ 2 ^ m + 2 ^ m = omega arith in
    let down : suc m - 1 ≡ m = omega arith in
    let none : 0 * 2 ^ m ≡ 0 = omega arith in
    let one : 1 * 2 ^ m ≡ 2 ^ m = omega arith in
    let left : node (suc m) hashes 1 0 ≡ root m (take (2 ^ m) hashes) =
    ap (λ (k : ℕ). root k (take (2 ^ k) (drop (0 * 2 ^ k) hashes))) down ∙ ap (λ (n : ℕ). root m (take (2 ^ m) (drop n hashes))) none in
    let right : node (suc m) hashes 1 1 ≡ root m (drop (2 ^ m) hashes) =
    ap (λ (k : ℕ). root k (take (2 ^ k) (drop (1 * 2 ^ k) hashes))) down ∙ ap (λ (n : ℕ). root m (take (2 ^ m) (drop n hashes))) one
    ∙ ap (root m) (take_all (2 ^ m) (drop (2 ^ m) hashes) (omega (arith, length-drop (2 ^ m) hashes, twice))) in
    let head : node_input (root m (take (2 ^ m) hashes)) (root m (drop (2 ^ m) hashes)) ≡ children_input (suc m) hashes 0 0 =
    sym (λ i. node_input (left i) (right i)) in
    subst (λ (k : ℕ). Contains (root_inputs (suc m) hashes) (children_input (suc m) hashes 0 k)) (sym first)
    (subst (Contains (root_inputs (suc m) hashes)) head (member_here _ _))
children_among (suc m) hashes (suc row) position full low inside =
    let twice : 2 ^ suc m ≡ 2 ^ m + 2 ^ m = omega arith in
    let rows : 2 ^ suc row ≡ 2 ^ row + 2 ^ row = omega arith in
    let next : 2 ^ (row + 1) ≡ 2 ^ row + 2 ^ row = rw add-one (omega (arith, pow-suc 2 row)) in
    let below : suc row + 1 ≡ suc (row + 1) = omega arith in
    let front : List (List ℕ) = take (2 ^ m) hashes in
    let back : List (List ℕ) = drop (2 ^ m) hashes in
    let front_full : length front ≡ 2 ^ m = length-take-le (2 ^ m) hashes (omega (arith, twice)) in
    let back_full : length back ≡ 2 ^ m = omega (arith, length-drop (2 ^ m) hashes, twice) in
    elim (cases_lt position (2 ^ row)) [
      | inl left ↦
          let one = node_left m hashes (row + 1) (2 * position) (omega arith) (omega (arith, next)) in
          let two = node_left m hashes (row + 1) (2 * position + 1) (omega arith) (omega (arith, next)) in
          let same : children_input m front row position ≡ children_input (suc m) hashes (suc row) position =
          sym (λ i. node_input (one i) (two i)) ∙ ap (λ (k : ℕ). node_input (node (suc m) hashes k (2 * position)) (node (suc m) hashes k (2 * position + 1))) (sym below) in
          member_there _ _ _ (Contains-append_left (root_inputs m front) (root_inputs m back) _
          (subst (Contains (root_inputs m front)) same (children_among m front row position front_full (omega arith) left)))
      | inr right ↦
          let p : ℕ = position - 2 ^ row in
          let one = node_right m hashes (row + 1) (2 * p) (omega arith) in
          let two = node_right m hashes (row + 1) (2 * p + 1) (omega arith) in
          let first : 2 ^ (row + 1) + 2 * p ≡ 2 * position = omega (arith, next) in
          let second : 2 ^ (row + 1) + (2 * p + 1) ≡ 2 * position + 1 = omega (arith, next) in
          let above : suc (row + 1) ≡ suc row + 1 = sym below in
          let same : children_input m back row p ≡ children_input (suc m) hashes (suc row) position =
          sym (λ i. node_input (one i) (two i))
          ∙ (λ i. node_input (node (suc m) hashes (above i) (first i)) (node (suc m) hashes (above i) (second i))) in
          member_there _ _ _ (Contains-append_right (root_inputs m front) (root_inputs m back) _
          (subst (Contains (root_inputs m back)) same (children_among m back row p back_full (omega arith) (omega (arith, rows)))))
    ]

-- ---- the path, from the leaf upward

inputs_even : (t leaf : ℕ) (hash : List ℕ) (siblings : List (List ℕ)) → leaf / 2 ^ t % 2 ≡ 0
    → path_inputs (suc t) (leaf % 2 ^ suc t) hash siblings
    ≡ node_input (path_root t (leaf % 2 ^ t) hash siblings) (slice_index_or siblings t []) ∷ path_inputs t (leaf % 2 ^ t) hash siblings
inputs_even t leaf hash siblings even =
    let next : suc t ≡ 1 + t = omega arith in
    let position : leaf % 2 ^ suc t ≡ leaf % 2 ^ t = rw (next, mod-pow-add leaf 1 t, even) (omega arith) in
    rw (position, lt_true (leaf % 2 ^ t) (2 ^ t) (mod_below leaf (2 ^ t) (pow_pos t))) refl

inputs_odd : (t leaf : ℕ) (hash : List ℕ) (siblings : List (List ℕ)) → leaf / 2 ^ t % 2 ≡ 1
    → path_inputs (suc t) (leaf % 2 ^ suc t) hash siblings
    ≡ node_input (slice_index_or siblings t []) (path_root t (leaf % 2 ^ t) hash siblings) ∷ path_inputs t (leaf % 2 ^ t) hash siblings
inputs_odd t leaf hash siblings odd =
    let next : suc t ≡ 1 + t = omega arith in
    let position : leaf % 2 ^ suc t ≡ 2 ^ t + leaf % 2 ^ t = rw (next, mod-pow-add leaf 1 t, odd) (omega arith) in
    let back : 2 ^ t + leaf % 2 ^ t - 2 ^ t ≡ leaf % 2 ^ t = omega arith in
    rw (position, lt_false (2 ^ t + leaf % 2 ^ t) (2 ^ t) (omega arith), back) refl

module _ (m : ℕ) (hashes : List (List ℕ)) (leaf : ℕ) (siblings : List (List ℕ))
    (nodes : (i : ℕ) → i < m → slice_index_or siblings i [] ≡ node m hashes (m - i) (sibling (leaf / 2 ^ i))) where
  -- the input of the node above
  step_input : (t : ℕ) → suc t ≤ m
      → path_inputs (suc t) (leaf % 2 ^ suc t) (slice_index_or hashes leaf []) siblings
      ≡ children_input m hashes (m - suc t) (leaf / 2 ^ suc t) ∷ path_inputs t (leaf % 2 ^ t) (slice_index_or hashes leaf []) siblings
  step_input t within =
      let hash = slice_index_or hashes leaf [] in
      let rest : List (List ℕ) = path_inputs t (leaf % 2 ^ t) hash siblings in
      let half : leaf / 2 ^ suc t ≡ leaf / 2 ^ t / 2 = ap (λ (n : ℕ). leaf / n) (pow-suc 2 t) ∙ sym (div-div-eq-div-mul leaf (2 ^ t) 2) in
      let row : m - t ≡ m - suc t + 1 = omega arith in
      let below = path_climbs m hashes leaf siblings nodes t (omega arith) in
      let here : slice_index_or siblings t [] ≡ node m hashes (m - t) (sibling (leaf / 2 ^ t)) = nodes t (omega arith) in
      elim (cases_eq (leaf / 2 ^ t % 2) 0) [
        | inl even ↦
            let own : leaf / 2 ^ t ≡ 2 * (leaf / 2 ^ suc t) = omega (arith, half, even) in
            let step : sibling (leaf / 2 ^ t) ≡ leaf / 2 ^ t + 1 = rw even refl in
            let other : sibling (leaf / 2 ^ t) ≡ 2 * (leaf / 2 ^ suc t) + 1 = omega (arith, step, own) in
            inputs_even t leaf hash siblings even
            ∙ (λ i. node_input (below i) (here i) ∷ rest)
            ∙ (λ i. node_input (node m hashes (row i) (own i)) (node m hashes (row i) (other i)) ∷ rest)
        | inr odd ↦
            let one : leaf / 2 ^ t % 2 ≡ 1 = omega arith in
            let own : leaf / 2 ^ t ≡ 2 * (leaf / 2 ^ suc t) + 1 = omega (arith, half, one) in
            let step : sibling (leaf / 2 ^ t) ≡ leaf / 2 ^ t - 1 = rw one refl in
            let other : sibling (leaf / 2 ^ t) ≡ 2 * (leaf / 2 ^ suc t) = omega (arith, step, own) in
            inputs_odd t leaf hash siblings one
            ∙ (λ i. node_input (here i) (below i) ∷ rest)
            ∙ (λ i. node_input (node m hashes (row i) (other i)) (node m hashes (row i) (own i)) ∷ rest)
      ]

  path_among : length hashes ≡ 2 ^ m → leaf < 2 ^ m → (t : ℕ) → t ≤ m
      → AreAmong (root_inputs m hashes) (path_inputs t (leaf % 2 ^ t) (slice_index_or hashes leaf []) siblings)
  path_among full inside zero within x c = absurd (omega (arith, c.1))
  path_among full inside (suc t) within x c =
      let sum : m - suc t + suc t ≡ m = omega arith in
      let position : leaf / 2 ^ suc t < 2 ^ (m - suc t) = shr_below leaf (m - suc t) (suc t) (rw sum inside) in
      elim (contains_cases _ x _ (subst (λ (l : List (List ℕ)). Contains l x) (step_input t within) c)) [
        | inl head ↦ subst (Contains (root_inputs m hashes)) head (children_among m hashes (m - suc t) (leaf / 2 ^ suc t) full (omega arith) position)
        | inr rest ↦ path_among full inside t (omega arith) x rest
      ]

pub own_paths_are_within : OwnPathsAreWithin
own_paths_are_within leaves leaf inside x c =
    let m : ℕ = height (length leaves) in
    let hashes : List (List ℕ) = padded leaves in
    let room = height_room (length leaves) in
    let above : leaf < 2 ^ m = omega arith in
    let nodes : (i : ℕ) → i < m → slice_index_or (siblings_of leaves leaf) i [] ≡ node m hashes (m - i) (sibling (leaf / 2 ^ i)) =
    λ i low.
    let sum : m - i + i ≡ m = omega arith in
    get_or-map-range_with_len (λ j. slice_index_or (tree_nodes leaves) (sibling_number m leaf j) []) 0 m i i [] low (zero-add i)
    ∙ tree_nodes_node leaves (m - i) (sibling (leaf / 2 ^ i)) (omega arith)
    (sibling_below (m - i) (leaf / 2 ^ i) (omega arith) (shr_below leaf (m - i) i (rw sum above))) in
    let own : slice_index_or hashes leaf [] ≡ slice_index_or leaves leaf [] = padded_to-leaf (2 ^ m) leaves leaf inside in
    let whole : leaf % 2 ^ m ≡ leaf = mod-eq_of_lt above in
    let same : path_inputs m (leaf % 2 ^ m) (slice_index_or hashes leaf []) (siblings_of leaves leaf) ≡ path_inputs m leaf (slice_index_or leaves leaf []) (siblings_of leaves leaf) =
    λ i. path_inputs m (whole i) (own i) (siblings_of leaves leaf) in
    Contains-append_right _ (root_inputs m hashes) x
    (path_among m hashes leaf (siblings_of leaves leaf) nodes (length-padded_to (2 ^ m) leaves room) above m (omega arith) x
    (subst (λ (l : List (List ℕ)). Contains l x) (sym same) c))
