-- Hashes that are the nodes of a tree.
use Rattle.std.proofs.Common.{◌≡◌, ℕ, zero, suc, ◌+◌, ◌-◌, ◌*◌, ◌^◌, ◌<◌, ◌≤◌, List, [], length, get_or, take, drop, inl, inr, ap, sym, ◌∙◌, arith}
use Rattle.std.proofs.Math.Nat.{pow-le-pow_right, pow-suc}
use Rattle.std.proofs.lemmas.Bool.{cases_lt}
use Rattle.std.proofs.lemmas.List.{ext_get_or, get_or-drop, get_or-take, length-drop, length-take-le}
use Rattle.std.proofs.lemmas.Nat.{pow_pos}
use Rattle.lemmas.proofs.Numbers.{next_power}
use Rattle.tagged_hash.specs.TaggedHash.{node_hash}
use Rattle.merkle.proofs.HeightLemmas.{height_room}
use Rattle.merkle.proofs.TreeLemmas.{all_built, last_row, length-padded_to, node-leaf, node_split, padded_to-empty, padded_to-leaf, tree_nodes_node}
use Rattle.merkle.specs.Tree.{height, leaves_among, node, node_number, padded_to, rows, tree_nodes}
use Rattle.merkle.specs.Nodes.{ArePairs, AreTreeNodes, IsPadded}

-- the number of a node is below the number of nodes
pub node_below : (row m position : ℕ) → row ≤ m → position < 2 ^ row → node_number row position + 1 < 2 ^ m + 2 ^ m
node_below row m position low inside =
    omega (arith, pow-le-pow_right {n = 2} (omega arith) {i = row} {j = m} low, pow_pos row)

-- an inner node lies in a row above the last
pub inner_position : (m i : ℕ) → i + 1 < 2 ^ m → (row : ℕ) × (position : ℕ) × (row < m) × (position < 2 ^ row) × (i ≡ node_number row position)
inner_position zero i below = absurd (omega arith)
inner_position (suc m) i below =
    let double = pow-suc 2 m in
    elim (cases_lt (i + 1) (2 ^ m)) [
      | inl above ↦ let found = inner_position m i above in (found.0, found.1, omega (arith, found.2), found.3, found.4)
      | inr here ↦ (m, i - (2 ^ m - 1), omega arith, omega (arith, pow_pos m), omega (arith, pow_pos m))
    ]

-- rows that end in padded leaves, and in which each node is the hash of its children, are a tree
module _ (m : ℕ) (hashes nodes : List (List ℕ)) (leaves : drop (2 ^ m - 1) nodes ≡ hashes) (size : length nodes + 1 ≡ 2 ^ m + 2 ^ m) (pairs : ArePairs nodes) where
  pub node_at : (d row position : ℕ) → row + d ≡ m → position < 2 ^ row → get_or nodes (node_number row position) [] ≡ node m hashes row position
  node_at zero row position level inside =
      let last : row ≡ m = omega arith in
      last_row m hashes nodes leaves row position (omega arith) inside (rw last (omega arith))
  node_at (suc d) row position level inside =
      let double = next_power row in
      let left : 2 * node_number row position + 1 ≡ node_number (row + 1) (2 * position) = omega (arith, pow_pos row) in
      let right : 2 * node_number row position + 2 ≡ node_number (row + 1) (2 * position + 1) = omega (arith, pow_pos row) in
      let below = node_below (row + 1) m (2 * position + 1) (omega arith) (omega arith) in
      let children = pairs (node_number row position) (omega (arith, below, right)) in
      let first = node_at d (row + 1) (2 * position) (omega arith) (omega arith) in
      let second = node_at d (row + 1) (2 * position + 1) (omega arith) (omega arith) in
      children
      ∙ (λ i. node_hash (get_or nodes (left i) []) (get_or nodes (right i) []))
      ∙ (λ i. node_hash (first i) (second i))
      ∙ sym (node_split m hashes row position (omega arith))

-- the padded leaves
row_is_padded : (n : ℕ) (row : List (List ℕ)) → n ≤ length row → IsPadded n row → row ≡ padded_to (length row) (take n row)
row_is_padded n row room empty =
    let count : length (take n row) ≡ n = length-take-le n row room in
    ext_get_or [] row (padded_to (length row) (take n row)) (sym (length-padded_to (length row) (take n row) (omega arith)))
    (λ i below.
    elim (cases_lt i n) [
      | inl own ↦ sym (padded_to-leaf (length row) (take n row) i (omega arith) ∙ get_or-take n row i [] own)
      | inr after ↦ empty i after below ∙ sym (padded_to-empty (length row) (take n row) i (omega arith) below)
    ])

module _ (n : ℕ) (nodes : List (List ℕ)) (size : length nodes ≡ 2 * 2 ^ height n - 1) where
  -- as many leaves as positions
  pub last_row_length : length (drop (2 ^ height n - 1) nodes) ≡ 2 ^ height n
  last_row_length = omega (arith, length-drop (2 ^ height n - 1) nodes, pow_pos (height n))

  pub leaf_count_is : length (leaves_among nodes n) ≡ n
  leaf_count_is = length-take-le n (drop (2 ^ height n - 1) nodes) (omega (arith, last_row_length, height_room n))

  pub tree_nodes_are : ArePairs nodes → IsPadded n (drop (2 ^ height n - 1) nodes) → AreTreeNodes n nodes
  unfolding tree_nodes
  tree_nodes_are pairs empty =
      let m : ℕ = height n in
      let row : List (List ℕ) = drop (2 ^ m - 1) nodes in
      let same : height (length (leaves_among nodes n)) ≡ m = ap height leaf_count_is in
      let last : row ≡ padded_to (2 ^ m) (leaves_among nodes n) =
      row_is_padded n row (omega (arith, last_row_length, height_room n)) empty ∙ ap (λ (k : ℕ). padded_to k (take n row)) last_row_length in
      let hashes : List (List ℕ) = padded_to (2 ^ m) (leaves_among nodes n) in
      let double : length nodes + 1 ≡ 2 ^ m + 2 ^ m = omega (arith, pow_pos m) in
      all_built m hashes nodes last (sym (ap length last) ∙ last_row_length) double
      (λ r position low inside. node_at m hashes nodes last double pairs (m - r) r position (omega arith) inside)
      ∙ ap (λ (k : ℕ). rows k (padded_to (2 ^ k) (leaves_among nodes n)) (k + 1)) (sym same)

  -- and the other way round
  module _ (are : AreTreeNodes n nodes) where
    tree_height : height (length (leaves_among nodes n)) ≡ height n
    tree_height = ap height leaf_count_is

    pub node_is : (row position : ℕ) → row ≤ height n → position < 2 ^ row
        → get_or nodes (node_number row position) [] ≡ node (height n) (padded_to (2 ^ height n) (leaves_among nodes n)) row position
    node_is row position low inside =
        ap (λ (l : List (List ℕ)). get_or l (node_number row position) []) are
        ∙ tree_nodes_node (leaves_among nodes n) row position (rw tree_height low) inside
        ∙ ap (λ (k : ℕ). node k (padded_to (2 ^ k) (leaves_among nodes n)) row position) tree_height

    pub pairs_are : ArePairs nodes
    pairs_are i within =
        let m : ℕ = height n in
        let hashes : List (List ℕ) = padded_to (2 ^ m) (leaves_among nodes n) in
        let found = inner_position m i (omega (arith, size, pow_pos m)) in
        let row : ℕ = found.0 in
        let position : ℕ = found.1 in
        let low : row < m = found.2 in
        let inside : position < 2 ^ row = found.3 in
        let here : i ≡ node_number row position = found.4 in
        let double = next_power row in
        let left : 2 * i + 1 ≡ node_number (row + 1) (2 * position) = omega (arith, pow_pos row, here) in
        let right : 2 * i + 2 ≡ node_number (row + 1) (2 * position + 1) = omega (arith, pow_pos row, here) in
        ap (λ (k : ℕ). get_or nodes k []) here
        ∙ node_is row position (omega arith) inside
        ∙ node_split m hashes row position low
        ∙ sym ((λ j. node_hash (get_or nodes (left j) []) (get_or nodes (right j) []))
        ∙ (λ j. node_hash (node_is (row + 1) (2 * position) (omega arith) (omega arith) j) (node_is (row + 1) (2 * position + 1) (omega arith) (omega arith) j)))

    pub padding_is : IsPadded n (drop (2 ^ height n - 1) nodes)
    padding_is position after within =
        let m : ℕ = height n in
        let leaves : List (List ℕ) = leaves_among nodes n in
        let inside : position < 2 ^ m = omega (arith, last_row_length) in
        get_or-drop (2 ^ m - 1) nodes position []
        ∙ node_is m position (omega arith) inside
        ∙ node-leaf m (padded_to (2 ^ m) leaves) position
        ∙ padded_to-empty (2 ^ m) leaves position (omega (arith, leaf_count_is)) inside
