-- How long the hashes of known nodes are, and what is hashed for them.
use Rattle.std.proofs.Common.{◌≡◌, ℕ, zero, suc, ◌+◌, ◌-◌, ◌/◌, ◌%◌, ◌^◌, ◌<◌, ◌≤◌, Bool, true, false, if◌then◌else◌, List, [], ◌∷◌, length, Contains, Option, Some, None, unwrap_or, inl, inr, slice_get, slice_index_or, ap, refl, sym, subst, ◌∙◌, arith, mod-eq_of_lt, zero-add}
use Rattle.std.proofs.lemmas.Bool.{cases_eq, cases_lt}
use Rattle.std.proofs.lemmas.List.{get_or_past}
use Rattle.std.proofs.lemmas.List.Elements.{All-from_get_or}
use Rattle.std.proofs.lemmas.List.FromFn.{get_or-map-range_with_len, length-map-range_with_len}
use Rattle.std.proofs.lemmas.Nat.{mod-pow-add, mod_below, pow_pos}
use Rattle.std.proofs.lemmas.Option.{none-some, same_Some}
use Rattle.lemmas.proofs.Members.{contains_cases}
use Rattle.lemmas.proofs.Numbers.{next_power}
use Rattle.tagged_hash.specs.TaggedHash.{node_hash}
use Rattle.tagged_hash.proofs.HashLemmas.{length-double_sha256}
use Rattle.merkle.specs.Inputs.{AreHashes, node_input, path_inputs}
use Rattle.merkle.specs.Known.{IsKnownInput, KnownPathsAreKnown, KnowsHashes}
use Rattle.merkle.specs.Partial.{IsExtended, IsPartial, Known, PartialState, Takes, all_known, ancestor, is_padding, known_at, known_by, known_siblings, leaf_number, only_root, padding, padding_hash, parent, position_in_row, row_of, starting}
use Rattle.merkle.specs.Path.{path_root}
use Rattle.merkle.specs.Tree.{height, node, node_count, node_number, padded_to, root, sibling_number}
use Rattle.merkle.proofs.HeightLemmas.{height_below, height_room}
use Rattle.merkle.proofs.InputLemmas.{inputs_left, inputs_right}
use Rattle.merkle.proofs.PaddingLemmas.{position_inside, row_begins, row_low}
use Rattle.merkle.proofs.PartialLemmas.{known-untold, one_value}
use Rattle.merkle.proofs.StateLemmas.{children_left, children_right, only_root-none, sibling_known}
use Rattle.merkle.proofs.TreeLemmas.{node-leaf, padded_to-empty}

-- ---- nodes over empty leaves alone

root_long : (m : ℕ) (hashes : List (List ℕ)) → 0 < m → length (root m hashes) ≡ 32
root_long zero hashes some = absurd (omega (arith, some))
root_long (suc m) hashes some = length-double_sha256 _

module _ (n number : ℕ) (inside : number < node_count n) where
  least : (k : ℕ) → k < height (number + 2) → 2 ^ k < number + 2
  least k low = elim (cases_lt (2 ^ k) (number + 2)) [
    | inl less ↦ less
    | inr high ↦ let below = height_below (number + 2) k high in absurd (omega (arith, below, low))
  ]

  below : number + 1 < 2 ^ (height n + 1)
  below = let double = next_power (height n) in omega (arith, inside, double)

  pub row_within : row_of number ≤ height n
  row_within = row_low (height n) number (height (number + 2)) below (height_room (number + 2)) least

  pub position_within : position_in_row number < 2 ^ row_of number
  position_within = position_inside (height n) number (height (number + 2)) below (height_room (number + 2)) least

  pub number_is : number ≡ node_number (row_of number) (position_in_row number)
  number_is = let begins = row_begins (height n) number (height (number + 2)) below (height_room (number + 2)) least in omega (arith, begins, pow_pos (row_of number))

  pub padding_long : length (padding_hash n number) ≡ 32
  padding_long = elim (cases_lt (row_of number) (height n)) [
    | inl above ↦ root_long (height n - row_of number) _ (omega (arith, above))
    | inr last ↦
        let same : row_of number ≡ height n = let low = row_within in omega (arith, low, last) in
        let inside_row : position_in_row number < 2 ^ height n = subst (λ (r : ℕ). position_in_row number < 2 ^ r) same position_within in
        ap (λ (r : ℕ). length (node (height n) (padded_to (2 ^ height n) []) r (position_in_row number))) same
        ∙ ap length (node-leaf (height n) (padded_to (2 ^ height n) []) (position_in_row number) ∙ padded_to-empty (2 ^ height n) [] (position_in_row number) (omega arith) inside_row)
        ∙ length-double_sha256 _
  ]

-- ---- each hash that is known has 32 bytes

if_long : (b : Bool) (x hash : List ℕ) → length x ≡ 32 → (if b then Some x else None) ≡ Some hash → length hash ≡ 32
if_long true x hash long e = ap length (sym (same_Some x hash e)) ∙ long
if_long false x hash long e = absurd (none-some hash e)

pub starting_knows : (root : List ℕ) (n : ℕ) → length root ≡ 32 → KnowsHashes (starting root n)
starting_knows root n long number hash e = let known : Known = known_by (padding n) (only_root root) in elim (cases_lt number (node_count n)) [
  | inr far ↦
      absurd (none-some hash (sym (get_or_past (all_known n known) number None (omega (arith, length-map-range_with_len known 0 (node_count n), far))) ∙ e))
  | inl inside ↦
      let told : known number ≡ Some hash = sym (get_or-map-range_with_len known 0 (node_count n) number number None inside (zero-add number)) ∙ e in
      elim (cases_eq number 0) [
        | inl top ↦ ap length (same_Some hash root (sym told ∙ ap known top)) ∙ long
        | inr other ↦
            if_long (is_padding n number) (padding_hash n number) hash (padding_long n number inside)
            (sym (known-untold (padding n) (only_root root) number (only_root-none root number other)) ∙ told)
      ]
]

module _ (n : ℕ) (old new : Known) (offers : List (ℕ × List ℕ)) (extended : IsExtended n old offers new)
    (known : (number : ℕ) (hash : List ℕ) → old number ≡ Some hash → length hash ≡ 32)
    (long : (k number : ℕ) (hash : List ℕ) → slice_get offers k ≡ Some (number, hash) → length hash ≡ 32) where
  touched_long : (rows below k : ℕ) (h hash : List ℕ) → slice_get offers k ≡ Some (below, h) → new (ancestor rows below) ≡ Some hash → length hash ≡ 32
  touched_long zero below k h hash offered e = ap length (one_value (new below) hash h e (extended.offered k below h offered)) ∙ long k below h offered
  touched_long (suc rows) below k h hash offered e = elim (cases_eq (ancestor rows below) 0) [
    | inl top ↦ touched_long rows below k h hash offered (ap new (top ∙ sym (ap parent top)) ∙ e)
    | inr other ↦
        let j = extended.joined (ancestor rows below) (record { position = k; below = below; hash = h; rows = rows; offered = offered; above = refl }) (omega (arith, other)) in
        ap length (one_value (new (parent (ancestor rows below))) hash (node_hash j.left j.right) e j.knows_parent) ∙ length-double_sha256 _
  ]

  pub extended_long : (number : ℕ) (hash : List ℕ) → new number ≡ Some hash → length hash ≡ 32
  extended_long number hash e = elim (cases_eq (length hash) 32) [
    | inl is ↦ is
    | inr other ↦ absurd (other (known number hash (sym (extended.others number (λ t. other
        (touched_long t.rows t.below t.position t.hash hash t.offered (ap new t.above ∙ e)))) ∙ e)))
  ]

pub takes_know : (old new : PartialState) (offers : List (ℕ × List ℕ)) → KnowsHashes old
    → ((k number : ℕ) (hash : List ℕ) → slice_get offers k ≡ Some (number, hash) → length hash ≡ 32) → Takes old offers new → KnowsHashes new
takes_know old new offers known long takes = extended_long old.leaf_count (known_at old) (known_at new) offers takes.known known long

-- ---- what is hashed for known nodes

module _ (p : PartialState) (leaf : ℕ) (hash input : List ℕ) (sound : IsPartial p) (inside : leaf < p.leaf_count)
    (knows : known_at p (leaf_number p.leaf_count leaf) ≡ Some hash) where
  abbrev siblings : List (List ℕ)
  siblings = known_siblings p leaf

  way : (t : ℕ) → t ≤ height p.leaf_count → Contains (path_inputs t (leaf % 2 ^ t) hash siblings) input → IsKnownInput p input
  way zero low among = absurd (omega (arith, among.1))
  way (suc t) low among = elim (cases_eq (leaf / 2 ^ t % 2) 0) [
    | inl even ↦
        let next : suc t ≡ 1 + t = omega arith in
        let position : leaf % 2 ^ suc t ≡ leaf % 2 ^ t = rw (next, mod-pow-add leaf 1 t, even) (omega arith) in
        let inputs = ap (λ (k : ℕ). path_inputs (suc t) k hash siblings) position ∙ inputs_left t (leaf % 2 ^ t) hash siblings (mod_below leaf (2 ^ t) (pow_pos t)) in
        elim (contains_cases _ input _ (subst (λ (l : List (List ℕ)). Contains l input) inputs among)) [
          | inl is ↦
              let c = children_left p leaf hash sound inside knows t low even in
              record { number = _; left = _; right = _; knows_left = c.0; knows_right = c.1; is = sym is }
          | inr rest ↦ way t (omega (arith, low)) rest
        ]
    | inr other ↦
        let odd : leaf / 2 ^ t % 2 ≡ 1 = omega (arith, other) in
        let next : suc t ≡ 1 + t = omega arith in
        let position : leaf % 2 ^ suc t ≡ 2 ^ t + leaf % 2 ^ t = rw (next, mod-pow-add leaf 1 t, odd) (omega arith) in
        let back : 2 ^ t + leaf % 2 ^ t - 2 ^ t ≡ leaf % 2 ^ t = omega arith in
        let split = ap (λ (k : ℕ). path_inputs (suc t) k hash siblings) position ∙ inputs_right t (2 ^ t + leaf % 2 ^ t) hash siblings (omega arith) in
        let inputs = split ∙ ap (λ (k : ℕ). node_input (slice_index_or siblings t []) (path_root t k hash siblings) ∷ path_inputs t k hash siblings) back in
        elim (contains_cases _ input _ (subst (λ (l : List (List ℕ)). Contains l input) inputs among)) [
          | inl is ↦
              let c = children_right p leaf hash sound inside knows t low odd in
              record { number = _; left = _; right = _; knows_left = c.0; knows_right = c.1; is = sym is }
          | inr rest ↦ way t (omega (arith, low)) rest
        ]
  ]

pub known_paths : KnownPathsAreKnown
known_paths p leaf hash input sound inside knows among =
    let whole : leaf % 2 ^ height p.leaf_count ≡ leaf = mod-eq_of_lt (let room = height_room p.leaf_count in omega (arith, inside, room)) in
    way p leaf hash input sound inside knows (height p.leaf_count) (omega arith)
    (subst (λ (k : ℕ). Contains (path_inputs (height p.leaf_count) k hash (known_siblings p leaf)) input) (sym whole) among)

-- ---- the siblings of a leaf that is known

pub siblings_long : (p : PartialState) (leaf : ℕ) (hash : List ℕ) → IsPartial p → leaf < p.leaf_count
    → known_at p (leaf_number p.leaf_count leaf) ≡ Some hash → KnowsHashes p → AreHashes (known_siblings p leaf)
siblings_long p leaf hash sound inside knows long =
    let all : ℕ → List ℕ = λ i. unwrap_or (known_at p (sibling_number (height p.leaf_count) leaf i)) [] in
    All-from_get_or (λ h. length h ≡ 32) (known_siblings p leaf) [] (λ i low.
    let below : i < height p.leaf_count = subst (λ (k : ℕ). i < k) (length-map-range_with_len all 0 (height p.leaf_count)) low in
    let known = sibling_known p leaf hash sound inside knows i below in
    ap length (get_or-map-range_with_len all 0 (height p.leaf_count) i i [] below (zero-add i)
    ∙ ap (λ (o : Option (List ℕ)). unwrap_or o []) known.1) ∙ long _ known.0 known.1)
