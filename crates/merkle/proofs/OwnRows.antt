-- The nodes of each row that have leaves below them, and behind them those over empty leaves alone.
use Rattle.std.proofs.Common.{◌≡◌, ℕ, ◌+◌, ◌-◌, ◌*◌, ◌/◌, ◌^◌, ◌<◌, ◌≤◌, true, false, List, [], length, drop, get_or, inl, inr, ap, refl, sym, subst, ◌∙◌, arith}
use Rattle.std.proofs.Math.Nat.{div-lt_iff_lt-mul, pow-le-pow_right}
use Rattle.std.proofs.lemmas.Bool.{cases_Bool, cases_lt, true≢false}
use Rattle.std.proofs.lemmas.List.{get_or-drop, length-drop}
use Rattle.std.proofs.lemmas.Nat.{pow_pos, shr_below}
use Rattle.lemmas.proofs.Numbers.{next_power}
use Rattle.tagged_hash.specs.TaggedHash.{node_hash}
use Rattle.merkle.specs.Nodes.{ArePairs, AreTreeNodes, HasPadding, IsPadded, IsPair, own_end}
use Rattle.merkle.specs.Partial.{is_padding, padding_hash, position_in_row, row_of}
use Rattle.merkle.specs.Tree.{height, leaves_among, node, node_count, node_number, padded_to, tree_nodes}
use Rattle.merkle.proofs.HeightLemmas.{height_room}
use Rattle.merkle.proofs.NodesLemmas.{inner_position, leaf_count_is, node_below}
use Rattle.merkle.proofs.OwnNodes.{own_padding}
use Rattle.merkle.proofs.PaddingLemmas.{is_padding-before, is_padding-there}
use Rattle.merkle.proofs.StateLemmas.{number_position, number_row}
use Rattle.merkle.proofs.TreeLemmas.{node-leaf, node_split, padded_to-empty}

-- the children of a row above the last are nodes of the tree
pub children_within : (m row end size : ℕ) → row < m → end < 2 ^ row + 2 ^ row → size ≡ 2 * 2 ^ m - 1 → 2 * end < size
children_within m row end size low inside full =
    omega (arith, inside, full, next_power row, pow-le-pow_right {n = 2} (omega arith) {i = row + 1} {j = m} (omega (arith, low)))

module _ (n : ℕ) where
  -- a node by its row and position
  module _ (row position : ℕ) (low : row ≤ height n) (inside : position < 2 ^ row) where
    first_leaf : position_in_row (node_number row position) * 2 ^ (height n - row_of (node_number row position)) ≡ position * 2 ^ (height n - row)
    first_leaf = rw (number_position row position inside, number_row row position inside) refl

    within : node_number row position < node_count n
    within = let below = node_below row (height n) position low inside in omega (arith, below)

    pub padding_from : n ≤ position * 2 ^ (height n - row) → is_padding n (node_number row position) ≡ true
    padding_from behind = is_padding-there n (node_number row position) within (omega (arith, first_leaf, behind))

    pub own_from : position * 2 ^ (height n - row) < n → is_padding n (node_number row position) ≡ false
    own_from before = is_padding-before n (node_number row position) within (omega (arith, first_leaf, before))

    pub padding_behind : is_padding n (node_number row position) ≡ true → n ≤ position * 2 ^ (height n - row)
    padding_behind is = elim (cases_lt (position * 2 ^ (height n - row)) n) [
      | inl before ↦ absurd (true≢false (sym is ∙ own_from before))
      | inr behind ↦ behind
    ]

    pub padding_is_node : padding_hash n (node_number row position) ≡ node (height n) (padded_to (2 ^ height n) []) row position
    padding_is_node = rw (number_position row position inside, number_row row position inside) refl

  -- a node of a row, by its number
  module _ (some : 0 < n) (row : ℕ) (low : row ≤ height n) where
    pub own_end_inside : own_end n row < 2 ^ row + 2 ^ row
    own_end_inside =
        let sum : row + (height n - row) ≡ height n = omega (arith, low) in
        let room : n - 1 < 2 ^ (row + (height n - row)) = rw sum (omega (arith, some, height_room n)) in
        let last = shr_below (n - 1) row (height n - row) room in
        omega (arith, last)

    module _ (number : ℕ) (from : 2 ^ row ≤ number + 1) (to : number + 1 < 2 ^ row + 2 ^ row) where
      here : number ≡ node_number row (number + 1 - 2 ^ row)
      here = omega (arith, from, pow_pos row)

      pub padding_from_end : own_end n row ≤ number → is_padding n number ≡ true
      padding_from_end high =
          let last : (n - 1) / 2 ^ (height n - row) < number + 1 - 2 ^ row = omega (arith, high) in
          let behind : n - 1 < (number + 1 - 2 ^ row) * 2 ^ (height n - row) =
          (div-lt_iff_lt-mul {k = 2 ^ (height n - row)} {x = n - 1} {y = number + 1 - 2 ^ row} (pow_pos (height n - row))).0 last in
          ap (is_padding n) here ∙ padding_from row (number + 1 - 2 ^ row) low (omega (arith, to)) (omega (arith, behind, some))

      pub own_before_end : number < own_end n row → is_padding n number ≡ false
      own_before_end less = elim (cases_lt ((number + 1 - 2 ^ row) * 2 ^ (height n - row)) n) [
        | inl before ↦ ap (is_padding n) here ∙ own_from row (number + 1 - 2 ^ row) low (omega (arith, to)) before
        | inr behind ↦
            let last : (n - 1) / 2 ^ (height n - row) < number + 1 - 2 ^ row =
            (div-lt_iff_lt-mul {k = 2 ^ (height n - row)} {x = n - 1} {y = number + 1 - 2 ^ row} (pow_pos (height n - row))).1 (omega (arith, behind, some)) in
            absurd (omega (arith, last, less, from))
      ]

  -- a node over empty leaves alone is the hash of two such nodes
  pub record IsPaddingPair (i : ℕ) : Type 0 where
    pub left : is_padding n (2 * i + 1) ≡ true
    pub right : is_padding n (2 * i + 2) ≡ true
    pub hash : padding_hash n i ≡ node_hash (padding_hash n (2 * i + 1)) (padding_hash n (2 * i + 2))

  pub padding_pair : (i : ℕ) → i + 1 < 2 ^ height n → is_padding n i ≡ true → IsPaddingPair i
  padding_pair i below is =
      let m : ℕ = height n in
      let hashes : List (List ℕ) = padded_to (2 ^ m) [] in
      let found = inner_position m i below in
      let row : ℕ = found.0 in
      let position : ℕ = found.1 in
      let low : row < m = found.2 in
      let inside : position < 2 ^ row = found.3 in
      let at : i ≡ node_number row position = found.4 in
      let double = next_power row in
      let left : 2 * i + 1 ≡ node_number (row + 1) (2 * position) = omega (arith, pow_pos row, at) in
      let right : 2 * i + 2 ≡ node_number (row + 1) (2 * position + 1) = omega (arith, pow_pos row, at) in
      let left_inside : 2 * position < 2 ^ (row + 1) = omega (arith, double, inside) in
      let right_inside : 2 * position + 1 < 2 ^ (row + 1) = omega (arith, double, inside) in
      let up : m - row ≡ m - (row + 1) + 1 = omega (arith, low) in
      let half : 2 ^ (m - row) ≡ 2 ^ (m - (row + 1)) + 2 ^ (m - (row + 1)) = ap (λ (k : ℕ). 2 ^ k) up ∙ next_power (m - (row + 1)) in
      let behind : n ≤ position * 2 ^ (m - row) = padding_behind row position (omega (arith, low)) inside (ap (is_padding n) (sym at) ∙ is) in
      let first : position * 2 ^ (m - row) ≡ 2 * position * 2 ^ (m - (row + 1)) = rw half (omega arith) in
      record {
        left = ap (is_padding n) left ∙ padding_from (row + 1) (2 * position) (omega (arith, low)) left_inside (omega (arith, behind, first));
        right = ap (is_padding n) right ∙ padding_from (row + 1) (2 * position + 1) (omega (arith, low)) right_inside (omega (arith, behind, first));
        hash =
            ap (padding_hash n) at ∙ padding_is_node row position (omega (arith, low)) inside ∙ node_split m hashes row position low
            ∙ (λ j. node_hash (sym (ap (padding_hash n) left ∙ padding_is_node (row + 1) (2 * position) (omega (arith, low)) left_inside) j)
            (sym (ap (padding_hash n) right ∙ padding_is_node (row + 1) (2 * position + 1) (omega (arith, low)) right_inside) j));
      }

  module _ (nodes : List (List ℕ)) (size : length nodes ≡ 2 * 2 ^ height n - 1) where
    -- where the nodes over empty leaves alone are right, the others decide
    pub pairs_from_own : HasPadding n nodes → ((i : ℕ) → i + 1 < 2 ^ height n → is_padding n i ≡ false → IsPair nodes i) → ArePairs nodes
    pairs_from_own padding own i inner =
        let below : i + 1 < 2 ^ height n = omega (arith, inner, size) in
        elim (cases_Bool (is_padding n i)) [
          | inr other ↦ own i below other
          | inl is ↦
              let pair = padding_pair i below is in
              padding i is ∙ pair.hash
              ∙ (λ j. node_hash (sym (padding (2 * i + 1) pair.left) j) (sym (padding (2 * i + 2) pair.right) j))
        ]

    pub padded_row : HasPadding n nodes → IsPadded n (drop (2 ^ height n - 1) nodes)
    padded_row padding position after within =
        let m : ℕ = height n in
        let none : m - m ≡ 0 = omega arith in
        let inside : position < 2 ^ m = omega (arith, within, length-drop (2 ^ m - 1) nodes, size, pow_pos m) in
        let behind : n ≤ position * 2 ^ (m - m) = rw none (omega (arith, after)) in
        get_or-drop (2 ^ m - 1) nodes position []
        ∙ padding (node_number m position) (padding_from m position (omega arith) inside behind)
        ∙ padding_is_node m position (omega arith) inside
        ∙ node-leaf m (padded_to (2 ^ m) []) position
        ∙ padded_to-empty (2 ^ m) [] position (omega arith) inside

    pub tree_has_padding : AreTreeNodes n nodes → HasPadding n nodes
    tree_has_padding are number =
        let leaves : List (List ℕ) = leaves_among nodes n in
        λ is. ap (λ (l : List (List ℕ)). get_or l number []) are
        ∙ subst (λ (k : ℕ). is_padding k number ≡ true → get_or (tree_nodes leaves) number [] ≡ padding_hash k number)
        (leaf_count_is n nodes size) (own_padding leaves number) is
