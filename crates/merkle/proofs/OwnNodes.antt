-- Without a clash the nodes that are known of a tree are those of each tree with its root.
use Rattle.std.proofs.Common.{◌≡◌, ℕ, zero, suc, ◌+◌, ◌-◌, ◌*◌, ◌%◌, ◌^◌, ◌<◌, ◌≤◌, true, List, [], length, take, drop, Some, inl, inr, get_or, Contains, ap, refl, sym, subst, ◌∙◌, arith}
use Rattle.std.proofs.lemmas.Bool.{cases_Bool, cases_eq, cases_lt, true≢false}
use Rattle.std.proofs.lemmas.List.{ext_get_or, get_or-drop, get_or-take, length-drop, length-take-le}
use Rattle.std.proofs.lemmas.List.Elements.{Contains-append_right}
use Rattle.std.proofs.lemmas.Nat.{pow_pos}
use Rattle.lemmas.proofs.Numbers.{next_power}
use Rattle.tagged_hash.specs.Clash.{HasNoClashIn}
use Rattle.tagged_hash.specs.TaggedHash.{node_hash}
use Rattle.tagged_hash.proofs.HashLemmas.{length-double_sha256}
use Rattle.merkle.specs.Inputs.{AreHashes, node_input, root_inputs, tree_inputs}
use Rattle.merkle.specs.Known.{IsKnownInput, KnowsHashes}
use Rattle.merkle.specs.OneTree.{KnownNodesAreOwn, KnowsTree}
use Rattle.merkle.specs.Partial.{IsPartial, PartialState, is_padding, known_at, padding_hash, parent, position_in_row, row_of}
use Rattle.merkle.specs.Tree.{height, node, node_count, node_number, padded, padded_to, root, tree_nodes, tree_root}
use Rattle.merkle.proofs.HeightLemmas.{height_room}
use Rattle.merkle.proofs.InputLemmas.{AreOf, pair_same}
use Rattle.merkle.proofs.KnownLemmas.{number_is, position_within, row_within}
use Rattle.merkle.proofs.NodesLemmas.{inner_position}
use Rattle.merkle.proofs.OwnInputLemmas.{children_among, part_within}
use Rattle.merkle.proofs.PaddingLemmas.{is_padding-before, is_padding-inside}
use Rattle.merkle.proofs.PartialLemmas.{one_value}
use Rattle.merkle.proofs.TreeLemmas.{length-padded_to, node-leaf, node_split, padded_to-empty, padded_to-leaf, tree_nodes_first, tree_nodes_node}

-- a node of the tree over some leaves
abbrev pub own_node : List (List ℕ) → ℕ → List ℕ
own_node leaves number = get_or (tree_nodes leaves) number []

pub own_node_is : (leaves : List (List ℕ)) (number : ℕ) → number < node_count (length leaves)
    → own_node leaves number ≡ node (height (length leaves)) (padded leaves) (row_of number) (position_in_row number)
own_node_is leaves number inside =
    ap (own_node leaves) (number_is (length leaves) number inside)
    ∙ tree_nodes_node leaves (row_of number) (position_in_row number) (row_within (length leaves) number inside) (position_within (length leaves) number inside)

-- where it lies over empty leaves alone, it is the same in each tree of so many leaves
pub own_padding : (leaves : List (List ℕ)) (number : ℕ) → is_padding (length leaves) number ≡ true
    → own_node leaves number ≡ padding_hash (length leaves) number
own_padding leaves number is =
    let n : ℕ = length leaves in
    let m : ℕ = height n in
    let inside = is_padding-inside n number is in
    let row : ℕ = row_of number in
    let position : ℕ = position_in_row number in
    let q : ℕ = m - row in
    let start : ℕ = position * 2 ^ q in
    let behind : n ≤ start = elim (cases_lt start n) [
      | inl before ↦ absurd (true≢false (sym is ∙ is_padding-before n number inside before))
      | inr there ↦ there
    ] in
    let room : start + 2 ^ q ≤ 2 ^ m = part_within m row position (row_within n number inside) (position_within n number inside) in
    let mine : List (List ℕ) = padded leaves in
    let none : List (List ℕ) = padded_to (2 ^ m) [] in
    let mine_long : length mine ≡ 2 ^ m = length-padded_to (2 ^ m) leaves (height_room n) in
    let none_long : length none ≡ 2 ^ m = length-padded_to (2 ^ m) [] (omega arith) in
    let mine_part : length (take (2 ^ q) (drop start mine)) ≡ 2 ^ q = length-take-le (2 ^ q) (drop start mine) (omega (arith, length-drop start mine, mine_long, room)) in
    let none_part : length (take (2 ^ q) (drop start none)) ≡ 2 ^ q = length-take-le (2 ^ q) (drop start none) (omega (arith, length-drop start none, none_long, room)) in
    let same : take (2 ^ q) (drop start mine) ≡ take (2 ^ q) (drop start none) =
    ext_get_or [] (take (2 ^ q) (drop start mine)) (take (2 ^ q) (drop start none)) (mine_part ∙ sym none_part) (λ i low.
    let few : i < 2 ^ q = omega (arith, low, mine_part) in
    get_or-take (2 ^ q) (drop start mine) i [] few ∙ get_or-drop start mine i [] ∙ padded_to-empty (2 ^ m) leaves (start + i) (omega (arith, behind)) (omega (arith, room, few))
    ∙ sym (get_or-take (2 ^ q) (drop start none) i [] few ∙ get_or-drop start none i [] ∙ padded_to-empty (2 ^ m) [] (start + i) (omega arith) (omega (arith, room, few)))) in
    own_node_is leaves number inside ∙ ap (root q) same

-- a node of a tree has 32 bytes
node_long : (leaves : List (List ℕ)) → AreHashes leaves → (row position : ℕ) → row ≤ height (length leaves) → position < 2 ^ row
    → length (node (height (length leaves)) (padded leaves) row position) ≡ 32
node_long leaves hashes row position low inside =
    let m : ℕ = height (length leaves) in
    elim (cases_lt row m) [
      | inl inner ↦ ap length (node_split m (padded leaves) row position inner) ∙ length-double_sha256 _
      | inr last ↦
          let same : row ≡ m = omega arith in
          let within : position < 2 ^ m = rw (← same) inside in
          rw same (ap length (node-leaf m (padded leaves) position)
          ∙ elim (cases_lt position (length leaves)) [
            | inl own ↦ ap length (padded_to-leaf (2 ^ m) leaves position own) ∙ hashes position [] own
            | inr after ↦ ap length (padded_to-empty (2 ^ m) leaves position after within) ∙ length-double_sha256 _
          ])
    ]

-- an inner node of a tree: it is the hash of its children, whose input is one of the tree's
pub record IsOwnParent (leaves : List (List ℕ)) (number : ℕ) : Type 0 where
  pub left_long : length (own_node leaves (2 * number + 1)) ≡ 32
  pub right_long : length (own_node leaves (2 * number + 2)) ≡ 32
  pub hash : own_node leaves number ≡ node_hash (own_node leaves (2 * number + 1)) (own_node leaves (2 * number + 2))
  pub among : Contains (tree_inputs leaves) (node_input (own_node leaves (2 * number + 1)) (own_node leaves (2 * number + 2)))

pub own_parent : (leaves : List (List ℕ)) → AreHashes leaves → (number : ℕ) → number + 1 < 2 ^ height (length leaves) → IsOwnParent leaves number
own_parent leaves are number inner =
    let m : ℕ = height (length leaves) in
    let hashes : List (List ℕ) = padded leaves in
    let found = inner_position m number inner in
    let row : ℕ = found.0 in
    let position : ℕ = found.1 in
    let low : row < m = found.2 in
    let inside : position < 2 ^ row = found.3 in
    let is : number ≡ node_number row position = found.4 in
    let double = next_power row in
    let left_is : 2 * number + 1 ≡ node_number (row + 1) (2 * position) = omega (arith, is, double, pow_pos row) in
    let right_is : 2 * number + 2 ≡ node_number (row + 1) (2 * position + 1) = omega (arith, is, double, pow_pos row) in
    let here : own_node leaves number ≡ node m hashes row position = ap (own_node leaves) is ∙ tree_nodes_node leaves row position (omega arith) inside in
    let left : own_node leaves (2 * number + 1) ≡ node m hashes (row + 1) (2 * position) =
    ap (own_node leaves) left_is ∙ tree_nodes_node leaves (row + 1) (2 * position) (omega (arith, low)) (omega (arith, inside, double)) in
    let right : own_node leaves (2 * number + 2) ≡ node m hashes (row + 1) (2 * position + 1) =
    ap (own_node leaves) right_is ∙ tree_nodes_node leaves (row + 1) (2 * position + 1) (omega (arith, low)) (omega (arith, inside, double)) in
    let full : length hashes ≡ 2 ^ m = length-padded_to (2 ^ m) leaves (height_room (length leaves)) in
    record {
      left_long = ap length left ∙ node_long leaves are (row + 1) (2 * position) (omega (arith, low)) (omega (arith, inside, double));
      right_long = ap length right ∙ node_long leaves are (row + 1) (2 * position + 1) (omega (arith, low)) (omega (arith, inside, double));
      hash = here ∙ node_split m hashes row position low ∙ (λ i. node_hash (sym left i) (sym right i));
      among = subst (Contains (tree_inputs leaves)) (λ i. node_input (sym left i) (sym right i))
          (Contains-append_right _ (root_inputs m hashes) _ (children_among m hashes row position full low inside));
    }

-- ---- what is known

module _ (IsOne : List ℕ → Type 0) (no_clash : HasNoClashIn IsOne) (p : PartialState) (leaves : List (List ℕ)) (sound : IsPartial p) (long : KnowsHashes p)
    (count : p.leaf_count ≡ length leaves) (are : AreHashes leaves) (mine : (input : List ℕ) → IsKnownInput p input → IsOne input)
    (own : AreOf IsOne (tree_inputs leaves)) (same_root : p.root ≡ tree_root leaves) where
  -- a node is known, and is the tree's
  abbrev IsOwn : ℕ → Type 0
  IsOwn number = (hash : List ℕ) → known_at p number ≡ Some hash → hash ≡ own_node leaves number

  child_is_own : (number : ℕ) → IsOwn number → number + 1 < 2 ^ height (length leaves) → (left right : List ℕ) → known_at p (2 * number + 1) ≡ Some left → known_at p (2 * number + 2) ≡ Some right
      → known_at p number ≡ Some (node_hash left right) → (left ≡ own_node leaves (2 * number + 1)) × (right ≡ own_node leaves (2 * number + 2))
  child_is_own number above inner left right knows_left knows_right knows =
      let parent_own = own_parent leaves are number inner in
      let e : node_hash left right ≡ node_hash (own_node leaves (2 * number + 1)) (own_node leaves (2 * number + 2)) = above (node_hash left right) knows ∙ parent_own.hash in
      let input : node_input left right ≡ node_input (own_node leaves (2 * number + 1)) (own_node leaves (2 * number + 2)) =
      no_clash _ _ (mine (node_input left right) (record { number = number; left = left; right = right; knows_left = knows_left; knows_right = knows_right; is = refl }))
      (own _ parent_own.among) e in
      pair_same left (own_node leaves (2 * number + 1)) right (own_node leaves (2 * number + 2)) (long (2 * number + 1) left knows_left) parent_own.left_long
      (long (2 * number + 2) right knows_right) parent_own.right_long input

  known_below : (fuel number : ℕ) → number < fuel → IsOwn number
  known_below zero number low hash knows = absurd (omega (arith, low))
  known_below (suc fuel) number low hash knows = elim (cases_eq number 0) [
    | inl first ↦
        one_value (known_at p number) hash p.root knows (ap (known_at p) first ∙ sound.root) ∙ same_root ∙ sym (tree_nodes_first leaves []) ∙ ap (own_node leaves) (sym first)
    | inr other ↦ elim (cases_Bool (is_padding p.leaf_count number)) [
      | inl padded_there ↦
          one_value (known_at p number) hash (padding_hash p.leaf_count number) knows (sound.empty number padded_there)
          ∙ ap (λ (n : ℕ). padding_hash n number) count
          ∙ sym (own_padding leaves number (subst (λ (n : ℕ). is_padding n number ≡ true) count padded_there))
      | inr own_there ↦
          let some : 0 < number = omega (arith, other) in
          let j = sound.joined number hash some own_there knows in
          let inside : number < node_count (length leaves) = subst (λ (n : ℕ). number < node_count n) count (sound.inside number hash knows) in
          let up : ℕ = parent number in
          let inner : up + 1 < 2 ^ height (length leaves) = omega (arith, inside, some, pow_pos (height (length leaves))) in
          let both = child_is_own up (known_below fuel up (omega (arith, low, some))) inner j.left j.right j.knows_left j.knows_right j.knows_parent in
          elim (cases_eq (number % 2) 1) [
            | inl odd ↦
                let is : number ≡ 2 * up + 1 = omega (arith, odd, some) in
                one_value (known_at p number) hash j.left knows (ap (known_at p) is ∙ j.knows_left) ∙ both.0 ∙ ap (own_node leaves) (sym is)
            | inr even ↦
                let is : number ≡ 2 * up + 2 = omega (arith, even, some) in
                one_value (known_at p number) hash j.right knows (ap (known_at p) is ∙ j.knows_right) ∙ both.1 ∙ ap (own_node leaves) (sym is)
          ]
    ]
  ]

  -- without a clash each node that is known is the tree's
  pub known_is_own : KnowsTree p leaves
  known_is_own number = known_below (suc number) number (omega arith)

pub known_nodes_are_own : KnownNodesAreOwn
known_nodes_are_own inputs no_clash p leaves sound long are count same_root mine own =
    known_is_own (Contains inputs) no_clash p leaves sound long count are mine own same_root
