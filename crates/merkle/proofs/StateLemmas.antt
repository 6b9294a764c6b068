-- What is known of a tree, from what is kept of it.
use Rattle.std.proofs.Common.{◌≡◌, ◌≢◌, ◌⊎◌, ℕ, zero, suc, ◌+◌, ◌-◌, ◌*◌, ◌/◌, ◌%◌, ◌^◌, ◌<◌, ◌≤◌, nat_eq, Bool, false, if◌then◌else◌, List, [], Option, Some, None, unwrap_or, inl, inr, slice_index_or, ap, refl, sym, subst, ◌∙◌, arith, zero-add}
use Rattle.std.proofs.Math.Nat.{div-div-eq-div-mul, div-mul-le_self, div-eq_of_lt, pow-le-pow_right, pow-suc}
use Rattle.std.proofs.lemmas.Bool.{cases_eq, cases_lt}
use Rattle.std.proofs.lemmas.Bool.Decides.{nat_tests}
use Rattle.std.proofs.lemmas.List.{get_or_past}
use Rattle.std.proofs.lemmas.List.FromFn.{get_or-map-range_with_len, length-map-range_with_len}
use Rattle.std.proofs.lemmas.Nat.{pow_pos, shr_below}
use Rattle.std.proofs.lemmas.Option.{none-some}
use Rattle.tagged_hash.specs.TaggedHash.{node_hash}
use Rattle.merkle.specs.Path.{path_root}
use Rattle.merkle.specs.Tree.{height, node_number, sibling}
use Rattle.merkle.specs.Partial.{IsJoined, IsPartial, Known, KnownLeavesLead, PartialState, all_known, is_padding, known_at, known_by, known_siblings, leaf_number, only_root, padding, padding_hash, parent, position_in_row, row_of, starting, partial_state}
use Rattle.merkle.specs.Tree.{node_count}
use Rattle.merkle.specs.Taking.{IsGrown, IsKept, IsListed}
use Rattle.merkle.proofs.HeightLemmas.{height_is, height_room}
use Rattle.merkle.proofs.PaddingLemmas.{padding-before, padding-false, padding-outside, padding-true}
use Rattle.merkle.proofs.PartialLemmas.{joined_from_told, known-told, known-untold, not_both, one_value, some_or_none}
use Rattle.merkle.proofs.PathLemmas.{path_root-left, path_root-right, path_root-whole}

module _ (root : List ℕ) (n : ℕ) (told : Known) (kept : IsKept n (padding n) root told) where
  -- nothing is known beside the tree
  known-outside : (q : ℕ) → node_count n ≤ q → known_by (padding n) told q ≡ None
  known-outside q far =
      elim (some_or_none (told q)) [
        | inl some ↦ absurd (omega (arith, kept.inside q some.0 some.1, far))
        | inr none ↦ known-untold (padding n) told q none ∙ padding-outside n q far
      ]

  pub known_at-state : (q : ℕ) → known_at (partial_state root n told) q ≡ known_by (padding n) told q
  known_at-state q =
      elim (cases_lt q (node_count n)) [
        | inl inside ↦ get_or-map-range_with_len (known_by (padding n) told) 0 (node_count n) q q None inside (zero-add q)
        | inr far ↦
            get_or_past (all_known n (known_by (padding n) told)) q None (omega (arith, length-map-range_with_len (known_by (padding n) told) 0 (node_count n), far)) ∙ sym (known-outside q far)
      ]

  pub known-state : known_at (partial_state root n told) ≡ known_by (padding n) told
  known-state = λ i q. known_at-state q i

  pub state_is_partial : 0 < n → n ≤ 2 ^ 20 → IsPartial (partial_state root n told)
  state_is_partial some few = record {
    some = some;
    few = few;
    root = known_at-state 0 ∙ known-told (padding n) told 0 root kept.first;
    inside = λ q hash e. elim (cases_lt q (node_count n)) [
      | inl inside ↦ inside
      | inr far ↦ absurd (not_both (known_by (padding n) told q) hash (known-outside q far) (sym (known_at-state q) ∙ e))
    ];
    empty = λ q e. known_at-state q ∙ elim (some_or_none (told q)) [
      | inl some' ↦ known-told (padding n) told q some'.0 some'.1 ∙ ap (λ (x : List ℕ). Some x) (sym (kept.empty q some'.0 (padding_hash n q) (padding-true n q e) some'.1))
      | inr none ↦ known-untold (padding n) told q none ∙ padding-true n q e
    ];
    joined = λ q hash positive e knows. elim (some_or_none (told q)) [
      | inl some' ↦
          subst (λ (k : Known). IsJoined k q) (sym known-state) (joined_from_told (padding n) told q (kept.joined q some'.0 positive some'.1))
      | inr none ↦
          absurd (not_both (known_by (padding n) told q) hash (known-untold (padding n) told q none ∙ padding-false n q e) (sym (known_at-state q) ∙ knows))
    ];
  }

-- one more
next : (m : ℕ) → m + 1 ≡ suc m
next m = omega arith

-- the root alone
padding-root : (n : ℕ) → 0 < n → padding n 0 ≡ None
padding-root n some =
    let one : height 2 ≡ 1 = height_is 2 1 (omega arith) (λ k below. let e : k ≡ 0 = omega arith in rw e (omega arith)) in
    let position : position_in_row 0 ≡ 0 = rw one refl in
    padding-before n 0 (omega (arith, pow_pos (height n), pow-suc 2 (height n), ap (λ (k : ℕ). 2 ^ k) (next (height n)))) (rw position (omega arith))

pub kept_root : (root : List ℕ) (n : ℕ) (told : Known) → 0 < n → told 0 ≡ Some root → ((q : ℕ) → q ≢ 0 → told q ≡ None) → IsKept n (padding n) root told
kept_root root n told some first rest = record {
  first = first;
  inside = λ q hash e. elim (cases_eq q 0) [
    | inl top ↦ omega (arith, top, pow_pos (height n), pow-suc 2 (height n), ap (λ (k : ℕ). 2 ^ k) (next (height n)))
    | inr other ↦ absurd (not_both (told q) hash (rest q other) e)
  ];
  empty = λ q hash x padded e. elim (cases_eq q 0) [
    | inl top ↦ absurd (none-some x (sym (padding-root n some) ∙ ap (padding n) (sym top) ∙ padded))
    | inr other ↦ absurd (not_both (told q) hash (rest q other) e)
  ];
  joined = λ q hash positive e. absurd (not_both (told q) hash (rest q (λ top. omega (arith, top, positive))) e);
}

-- after the nodes that were added are taken out
pub taken_out : (first told after : Known) (added : List ℕ) → IsGrown first added told
    → ((q : ℕ) → IsListed added q → after q ≡ None) → ((q : ℕ) → (after q ≡ told q) ⊎ IsListed added q) → (q : ℕ) → after q ≡ first q
taken_out first told after added grown out rest q =
    elim (rest q) [
      | inr listed ↦ out q listed ∙ sym (grown.fresh q listed)
      | inl same ↦ elim (grown.rest q) [
        | inl e ↦ same ∙ e
        | inr listed ↦ out q listed ∙ sym (grown.fresh q listed)
      ]
    ]

-- ---- a leaf that is known

-- the row of a node, and its position, by its number
pub number_row : (row position : ℕ) → position < 2 ^ row → row_of (node_number row position) ≡ row
number_row row position inside =
    let e : height (node_number row position + 2) ≡ row + 1 =
    height_is (node_number row position + 2) (row + 1) (omega (arith, inside, ap (λ (k : ℕ). 2 ^ k) (next row), pow-suc 2 row))
    (λ k below. omega (arith, pow-le-pow_right {n = 2} (omega arith) {i = k} {j = row} (omega arith), pow_pos row)) in
    rw e (omega arith)

pub number_position : (row position : ℕ) → position < 2 ^ row → position_in_row (node_number row position) ≡ position
number_position row position inside = rw (number_row row position inside) (omega (arith, pow_pos row))

module _ (p : PartialState) (leaf : ℕ) (hash : List ℕ) (sound : IsPartial p) (inside : leaf < p.leaf_count)
    (knows : known_at p (leaf_number p.leaf_count leaf) ≡ Some hash) where
  -- the numbers of the leaf and of the nodes above it
  abbrev number : ℕ → ℕ
  number t = node_number (height p.leaf_count - t) (leaf / 2 ^ t)

  room : leaf < 2 ^ height p.leaf_count
  room = omega (arith, inside, height_room p.leaf_count)

  position_below : (t : ℕ) → t ≤ height p.leaf_count → leaf / 2 ^ t < 2 ^ (height p.leaf_count - t)
  position_below t low =
      let sum : height p.leaf_count - t + t ≡ height p.leaf_count = omega arith in
      shr_below leaf (height p.leaf_count - t) t (rw sum room)

  -- they are no padding
  own : (t : ℕ) → t ≤ height p.leaf_count → is_padding p.leaf_count (number t) ≡ false
  own t low =
      let row : ℕ = height p.leaf_count - t in
      let position : ℕ = leaf / 2 ^ t in
      let below : position < 2 ^ row = position_below t low in
      let back : height p.leaf_count - row ≡ t = omega arith in
      let first : position_in_row (number t) * 2 ^ (height p.leaf_count - row_of (number t)) ≡ position * 2 ^ t =
      rw (number_position row position below, number_row row position below, back) refl in
      grind (arith, nat_tests, first, div-mul-le_self leaf (2 ^ t), inside)

  half : (t : ℕ) → leaf / 2 ^ suc t ≡ leaf / 2 ^ t / 2
  half t = ap (λ (n : ℕ). leaf / n) (pow-suc 2 t) ∙ sym (div-div-eq-div-mul leaf (2 ^ t) 2)

  -- the node above
  module _ (t : ℕ) (below : suc t ≤ height p.leaf_count) where
    rows : 2 ^ (height p.leaf_count - t) ≡ 2 ^ (height p.leaf_count - suc t) + 2 ^ (height p.leaf_count - suc t)
    rows =
        let e : height p.leaf_count - t ≡ suc (height p.leaf_count - suc t) = omega arith in
        ap (λ (k : ℕ). 2 ^ k) e ∙ pow-suc 2 (height p.leaf_count - suc t) ∙ omega arith

    some_number : 0 < number t
    some_number = omega (arith, rows, pow_pos (height p.leaf_count - suc t))

    above : parent (number t) ≡ number (suc t)
    above = omega (arith, rows, pow_pos (height p.leaf_count - suc t), half t)

    joined_above : (h : List ℕ) → known_at p (number t) ≡ Some h → IsJoined (known_at p) (number t)
    joined_above h e = sound.joined (number t) h some_number (own t (omega arith)) e

    -- the sibling, and the node above, on either side
    left_number : leaf / 2 ^ t % 2 ≡ 0 → (number t ≡ 2 * parent (number t) + 1) × (node_number (height p.leaf_count - t) (sibling (leaf / 2 ^ t)) ≡ 2 * parent (number t) + 2)
    left_number even =
        let other : sibling (leaf / 2 ^ t) ≡ leaf / 2 ^ t + 1 = rw even refl in
        (omega (arith, rows, pow_pos (height p.leaf_count - suc t), even), rw other (omega (arith, rows, pow_pos (height p.leaf_count - suc t), even)))

    right_number : leaf / 2 ^ t % 2 ≡ 1 → (number t ≡ 2 * parent (number t) + 2) × (node_number (height p.leaf_count - t) (sibling (leaf / 2 ^ t)) ≡ 2 * parent (number t) + 1)
    right_number odd =
        let other : sibling (leaf / 2 ^ t) ≡ leaf / 2 ^ t - 1 = rw odd refl in
        (omega (arith, rows, pow_pos (height p.leaf_count - suc t), odd), rw other (omega (arith, rows, pow_pos (height p.leaf_count - suc t), odd)))

    sibling_at : (h : List ℕ) → known_at p (node_number (height p.leaf_count - t) (sibling (leaf / 2 ^ t))) ≡ Some h
        → slice_index_or (known_siblings p leaf) t [] ≡ h
    sibling_at h e =
        get_or-map-range_with_len (λ i. unwrap_or (known_at p (node_number (height p.leaf_count - i) (sibling (leaf / 2 ^ i)))) []) 0 (height p.leaf_count) t t [] (omega arith) (zero-add t)
        ∙ ap (λ (o : Option (List ℕ)). unwrap_or o []) e

    step : known_at p (number t) ≡ Some (path_root t (leaf % 2 ^ t) hash (known_siblings p leaf))
        → known_at p (number (suc t)) ≡ Some (path_root (suc t) (leaf % 2 ^ suc t) hash (known_siblings p leaf))
    step e =
        let so_far : List ℕ = path_root t (leaf % 2 ^ t) hash (known_siblings p leaf) in
        let j = joined_above so_far e in
        elim (cases_eq (leaf / 2 ^ t % 2) 0) [
          | inl even ↦
              let at = left_number even in
              let mine : j.left ≡ so_far = one_value (known_at p (number t)) j.left so_far (ap (known_at p) at.0 ∙ j.knows_left) e in
              let other : slice_index_or (known_siblings p leaf) t [] ≡ j.right = sibling_at j.right (ap (known_at p) at.1 ∙ j.knows_right) in
              ap (known_at p) (sym above) ∙ j.knows_parent
              ∙ ap (λ (x : List ℕ). Some x) ((λ i. node_hash (mine i) (sym other i)) ∙ sym (path_root-left t leaf hash (known_siblings p leaf) even))
          | inr rest ↦
              let odd : leaf / 2 ^ t % 2 ≡ 1 = omega arith in
              let at = right_number odd in
              let mine : j.right ≡ so_far = one_value (known_at p (number t)) j.right so_far (ap (known_at p) at.0 ∙ j.knows_right) e in
              let other : slice_index_or (known_siblings p leaf) t [] ≡ j.left = sibling_at j.left (ap (known_at p) at.1 ∙ j.knows_left) in
              ap (known_at p) (sym above) ∙ j.knows_parent
              ∙ ap (λ (x : List ℕ). Some x) ((λ i. node_hash (sym other i) (mine i)) ∙ sym (path_root-right t leaf hash (known_siblings p leaf) odd))
        ]

  climbs : (t : ℕ) → t ≤ height p.leaf_count → known_at p (number t) ≡ Some (path_root t (leaf % 2 ^ t) hash (known_siblings p leaf))
  climbs zero low =
      let all : height p.leaf_count - 0 ≡ height p.leaf_count = omega arith in
      let position : leaf / 1 ≡ leaf = omega arith in
      rw (all, position) knows
  climbs (suc t) low = step t low (climbs t (omega arith))

  -- the siblings are known
  pub sibling_known : (t : ℕ) → t < height p.leaf_count
      → (h : List ℕ) × (known_at p (node_number (height p.leaf_count - t) (sibling (leaf / 2 ^ t))) ≡ Some h)
  sibling_known t below =
      let j = joined_above t (omega arith) (path_root t (leaf % 2 ^ t) hash (known_siblings p leaf)) (climbs t (omega arith)) in
      elim (cases_eq (leaf / 2 ^ t % 2) 0) [
        | inl even ↦ (j.right, ap (known_at p) (left_number t (omega arith) even).1 ∙ j.knows_right)
        | inr rest ↦ (j.left, ap (known_at p) (right_number t (omega arith) (omega arith)).1 ∙ j.knows_left)
      ]

  -- the two children of a node above the leaf: the node below and its sibling
  pub children_left : (t : ℕ) → suc t ≤ height p.leaf_count → leaf / 2 ^ t % 2 ≡ 0
      → (known_at p (2 * parent (number t) + 1) ≡ Some (path_root t (leaf % 2 ^ t) hash (known_siblings p leaf)))
      × (known_at p (2 * parent (number t) + 2) ≡ Some (slice_index_or (known_siblings p leaf) t []))
  children_left t below even =
      let at = left_number t below even in
      let e = climbs t (omega arith) in
      let j = joined_above t below (path_root t (leaf % 2 ^ t) hash (known_siblings p leaf)) e in
      (ap (known_at p) (sym at.0) ∙ e, j.knows_right ∙ ap (λ (x : List ℕ). Some x) (sym (sibling_at t below j.right (ap (known_at p) at.1 ∙ j.knows_right))))

  pub children_right : (t : ℕ) → suc t ≤ height p.leaf_count → leaf / 2 ^ t % 2 ≡ 1
      → (known_at p (2 * parent (number t) + 1) ≡ Some (slice_index_or (known_siblings p leaf) t []))
      × (known_at p (2 * parent (number t) + 2) ≡ Some (path_root t (leaf % 2 ^ t) hash (known_siblings p leaf)))
  children_right t below odd =
      let at = right_number t below odd in
      let e = climbs t (omega arith) in
      let j = joined_above t below (path_root t (leaf % 2 ^ t) hash (known_siblings p leaf)) e in
      (j.knows_left ∙ ap (λ (x : List ℕ). Some x) (sym (sibling_at t below j.left (ap (known_at p) at.1 ∙ j.knows_left))), ap (known_at p) (sym at.0) ∙ e)

  pub leads_by_siblings : path_root (height p.leaf_count) leaf hash (known_siblings p leaf) ≡ p.root
  leads_by_siblings =
      let m : ℕ = height p.leaf_count in
      let none : m - m ≡ 0 = omega arith in
      let first : leaf / 2 ^ m ≡ 0 = div-eq_of_lt room in
      let top : number m ≡ 0 = rw (none, first) refl in
      sym (path_root-whole m leaf hash (known_siblings p leaf) room)
      ∙ one_value (known_at p 0) (path_root m (leaf % 2 ^ m) hash (known_siblings p leaf)) p.root
      (ap (known_at p) (sym top) ∙ climbs m (omega arith)) sound.root

pub known-lead : KnownLeavesLead
known-lead p leaf hash sound inside knows = (
  inside,
  length-map-range_with_len (λ i. unwrap_or (known_at p (node_number (height p.leaf_count - i) (sibling (leaf / 2 ^ i)))) []) 0 (height p.leaf_count),
  leads_by_siblings p leaf hash sound inside knows,
)

-- nothing else
pub apart : (q : ℕ) → q ≢ 0 → nat_eq q 0 ≡ false
apart q other = grind (arith, nat_tests)

pub apart' : (q : ℕ) → q ≢ 0 → nat_eq 0 q ≡ false
apart' q other = grind (arith, nat_tests)

pub only_root-none : (root : List ℕ) (q : ℕ) → q ≢ 0 → only_root root q ≡ None
only_root-none root q other = ap (λ (b : Bool). if b then Some root else None) (apart q other)

-- the root alone was told
pub starting_is : (root : List ℕ) (n : ℕ) (told : Known) → told 0 ≡ Some root → ((q : ℕ) → q ≢ 0 → told q ≡ None) → partial_state root n told ≡ starting root n
starting_is root n told first rest =
    let same : (q : ℕ) → told q ≡ only_root root q =
    λ q. elim (cases_eq q 0) [
      | inl top ↦ ap told top ∙ first ∙ sym (ap (only_root root) top)
      | inr other ↦ rest q other ∙ sym (only_root-none root q other)
    ] in
    ap (partial_state root n) (λ i q. same q i)
