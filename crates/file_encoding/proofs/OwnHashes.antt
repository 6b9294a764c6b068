-- The share hashes of an encoding lead to its share tree's root.
use Rattle.std.proofs.Common.{◌≡◌, ◌≢◌, ℕ, zero, suc, ◌+◌, ◌-◌, ◌*◌, ◌/◌, ◌%◌, ◌^◌, ◌<◌, ◌≤◌, true, List, [], ◌∷◌, ◌++◌, Some, length, get_or, map, take, inl, inr, ap, refl, subst, sym, ◌∙◌, arith, zero-add}
use Rattle.std.specs.Int.{w16, to_be_bytes, from_be_bytes}
use Rattle.std.specs.List.{flat_map}
use Rattle.std.specs.Simd.{first_chunks}
use Rattle.std.specs.Str.{bytes_eq}
use Rattle.std.proofs.lemmas.Bool.{cases_eq, cases_lt}
use Rattle.std.proofs.lemmas.List.{append_assoc, drop_at, get_or-map, length-append, length-map, take_at}
use Rattle.std.proofs.lemmas.List.FromFn.{get_or-map-range_with_len}
use Rattle.std.proofs.lemmas.Nat.{from_be_bytes-to_be_bytes_2, pow_pos, shr_below}
use Rattle.std.proofs.lemmas.Slice.Eq.{bytes_eq-Decides}
use Rattle.std.proofs.Math.Nat.{pow-le-pow_right}
use Rattle.lemmas.proofs.Bools.{bool_cases}
use Rattle.lemmas.proofs.Numbers.{next_power}
use Rattle.merkle.proofs.HeightLemmas.{height_below, height_room}
use Rattle.merkle.proofs.PathLemmas.{sibling_below, siblings_of-lead}
use Rattle.merkle.proofs.TreeLemmas.{length-tree_nodes, node-leaf, padded_to-leaf, tree_nodes_node}
use Rattle.merkle.specs.Path.{siblings_of}
use Rattle.merkle.specs.Tree.{height, needed_numbers, node_number, padded, sibling, tree_nodes, tree_root}
use Rattle.merkle.proofs.NumberLemmas.{length-needed_numbers, needed_above, needed_left, needed_right}
use Rattle.share_layout.specs.Share.{CarriesNumbers}
use Rattle.share_verify.specs.Pieces.{joined}
use Rattle.share_verify.specs.ShareHashes.{LeadsByEntries, carried_hash, entries_in}
use Rattle.merkle.specs.Tree.{sibling_number}
use Rattle.share_verify.specs.TreeSection.{AreHashes}
use Rattle.share_verify.proofs.ChunkLemmas.{first_chunks-joined, length-joined}
use Rattle.share_verify.proofs.SectionLemmas.{tree_nodes_are_hashes}
use Rattle.merkle.proofs.NodesLemmas.{node_below}
use Rattle.file_encoding.specs.Encoding.{share_hashes}

-- a number and its hash
abbrev entry_of : (ℕ → List ℕ) → ℕ → List ℕ
entry_of f n = to_be_bytes w16 n ++ f n

-- different numbers have different bytes
same_number : (m n : ℕ) → m < 2 ^ 16 → n < 2 ^ 16 → to_be_bytes w16 m ≡ to_be_bytes w16 n → m ≡ n
same_number m n low high same = sym (from_be_bytes-to_be_bytes_2 m low) ∙ ap (from_be_bytes w16) same ∙ from_be_bytes-to_be_bytes_2 n high

-- the first entry, where it has the number, and where it has another
first_has : (f : ℕ → List ℕ) (m : ℕ) (ms : List ℕ) → carried_hash (map (entry_of f) (m ∷ ms)) m ≡ Some (f m)
first_has f m ms =
    let front : take 2 (entry_of f m) ≡ to_be_bytes w16 m = take_at (to_be_bytes w16 m) (f m) 2 refl in
    let test : bytes_eq (take 2 (entry_of f m)) (to_be_bytes w16 m) ≡ true = (bytes_eq-Decides (take 2 (entry_of f m)) (to_be_bytes w16 m)).1 front in
    rw test (ap (λ (h : List ℕ). Some h) (drop_at (to_be_bytes w16 m) (f m) 2 refl))

first_lacks : (f : ℕ → List ℕ) (m : ℕ) (ms : List ℕ) (n : ℕ) → m < 2 ^ 16 → n < 2 ^ 16 → m ≢ n
    → carried_hash (map (entry_of f) (m ∷ ms)) n ≡ carried_hash (map (entry_of f) ms) n
first_lacks f m ms n low high other =
    let front : take 2 (entry_of f m) ≡ to_be_bytes w16 m = take_at (to_be_bytes w16 m) (f m) 2 refl in
    elim (bool_cases (bytes_eq (take 2 (entry_of f m)) (to_be_bytes w16 n))) [
      | inl passes ↦ absurd (other (same_number m n low high (sym front ∙ (bytes_eq-Decides (take 2 (entry_of f m)) (to_be_bytes w16 n)).0 passes)))
      | inr fails ↦ rw fails refl
    ]

-- the hash at a number that stands among others
pub carried_at : (f : ℕ → List ℕ) (numbers : List ℕ) (position n : ℕ) → ((k : ℕ) → k < length numbers → get_or numbers k 0 < 2 ^ 16)
    → position < length numbers → get_or numbers position 0 ≡ n → carried_hash (map (entry_of f) numbers) n ≡ Some (f n)
carried_at f [] position n small there is = absurd (omega arith)
carried_at f (m ∷ ms) zero n small there is = subst (λ (k : ℕ). carried_hash (map (entry_of f) (m ∷ ms)) k ≡ Some (f k)) is (first_has f m ms)
carried_at f (m ∷ ms) (suc position) n small there is =
    elim (cases_eq m n) [
      | inl same ↦ subst (λ (k : ℕ). carried_hash (map (entry_of f) (m ∷ ms)) k ≡ Some (f k)) same (first_has f m ms)
      | inr other ↦
          let high : n < 2 ^ 16 = subst (λ (k : ℕ). k < 2 ^ 16) is (small (suc position) there) in
          first_lacks f m ms n (small 0 (omega arith)) high other
          ∙ carried_at f ms position n (λ k below. small (suc k) (omega arith)) (omega arith) is
    ]

-- entries, one after another
joined_entries : (f : ℕ → List ℕ) (numbers : List ℕ) → flat_map (entry_of f) numbers ≡ joined (map (entry_of f) numbers)
joined_entries f [] = refl
joined_entries f (n ∷ ns) = ap (λ (l : List ℕ). entry_of f n ++ l) (joined_entries f ns)

pub entries_are : (f : ℕ → List ℕ) (numbers : List ℕ) → ((k : ℕ) → k < length numbers → length (f (get_or numbers k 0)) ≡ 32)
    → entries_in (flat_map (entry_of f) numbers) ≡ map (entry_of f) numbers
entries_are f numbers hashes =
    let entries : List (List ℕ) = map (entry_of f) numbers in
    let each : (i : ℕ) → i < length entries → length (get_or entries i []) ≡ 34 =
    λ i below.
    let low : i < length numbers = omega (arith, length-map numbers (entry_of f)) in
    ap length (get_or-map (entry_of f) numbers i 0 [] low) ∙ length-append (to_be_bytes w16 (get_or numbers i 0)) (f (get_or numbers i 0)) ∙ ap (λ (k : ℕ). 2 + k) (hashes i low) in
    let whole = joined_entries f numbers in
    let count : length (flat_map (entry_of f) numbers) / 34 ≡ length entries =
    ap (λ (l : List ℕ). length l / 34) whole ∙ ap (λ (k : ℕ). k / 34) (length-joined 34 entries each) ∙ omega arith in
    (λ i. first_chunks 34 (count i) (whole i)) ∙ first_chunks-joined 34 entries each

-- how long they are
pub length-entries : (f : ℕ → List ℕ) (numbers : List ℕ) → ((k : ℕ) → k < length numbers → length (f (get_or numbers k 0)) ≡ 32)
    → length (flat_map (entry_of f) numbers) ≡ length numbers * 34
length-entries f [] hashes = omega arith
length-entries f (n ∷ ns) hashes =
    let rest = length-entries f ns (λ k below. hashes (suc k) (omega arith)) in
    let first : suc (length ns) * 34 ≡ 34 + length ns * 34 = omega arith in
    omega (arith, length-append (entry_of f n) (flat_map (entry_of f) ns), length-append (to_be_bytes w16 n) (f n), hashes 0 (omega arith), rest, first)

-- and the numbers that they carry
pub entries_carry : (f : ℕ → List ℕ) (numbers : List ℕ) → ((k : ℕ) → k < length numbers → length (f (get_or numbers k 0)) ≡ 32)
    → CarriesNumbers numbers (flat_map (entry_of f) numbers)
entries_carry f [] hashes = refl
entries_carry f (n ∷ ns) hashes =
    let rest : List ℕ = flat_map (entry_of f) ns in
    let size : length (entry_of f n) ≡ 34 = length-append (to_be_bytes w16 n) (f n) ∙ ap (λ (k : ℕ). 2 + k) (hashes 0 (omega arith)) in (
      ap (take 2) (append_assoc (to_be_bytes w16 n) (f n) rest) ∙ take_at (to_be_bytes w16 n) (f n ++ rest) 2 refl,
      subst (CarriesNumbers ns) (sym (drop_at (entry_of f n) rest 34 size)) (entries_carry f ns (λ k below. hashes (suc k) (omega arith))),
    )

-- where the numbers of a leaf and of its siblings stand among those that it needs
pub record Stands (numbers : List ℕ) (n : ℕ) : Type 0 where
  pub position : ℕ
  pub there : position < length numbers
  pub is : get_or numbers position 0 ≡ n

own_stands : (m leaf : ℕ) → leaf < 2 ^ m → Stands (needed_numbers m leaf) (node_number m leaf)
own_stands zero leaf inside = record { position = 0; there = omega arith; is = omega arith }
own_stands (suc m) leaf inside =
    let size = length-needed_numbers (suc m) leaf in
    elim (cases_eq (leaf % 2) 0) [
      | inl even ↦ record { position = m; there = omega (arith, size); is = needed_left (suc m) leaf m (omega arith) ∙ omega arith }
      | inr odd ↦ record { position = suc m; there = omega (arith, size); is = needed_right (suc m) leaf (suc m) (omega arith) refl ∙ omega (arith, pow_pos (suc m)) }
    ]

sibling_stands : (m leaf i : ℕ) → i < m → leaf < 2 ^ m → Stands (needed_numbers m leaf) (sibling_number m leaf i)
sibling_stands zero leaf i low inside = absurd (omega arith)
sibling_stands (suc m) leaf zero low inside =
    let size = length-needed_numbers (suc m) leaf in
    let whole : leaf / 1 ≡ leaf = omega arith in
    let top : suc m - 0 ≡ suc m = omega arith in
    elim (cases_eq (leaf % 2) 0) [
      | inl even ↦
          let other : sibling leaf ≡ leaf + 1 = rw even refl in
          record { position = suc m; there = omega (arith, size); is = needed_right (suc m) leaf (suc m) (omega arith) refl ∙ rw (whole, other, top) (omega (arith, pow_pos (suc m))) }
      | inr odd ↦
          let one : leaf % 2 ≡ 1 = omega arith in
          let other : sibling leaf ≡ leaf - 1 = rw one refl in
          record { position = m; there = omega (arith, size); is = needed_left (suc m) leaf m (omega arith) ∙ rw (whole, other, top) (omega arith) }
    ]
sibling_stands (suc m) leaf (suc i) low inside =
    let size = length-needed_numbers (suc m) leaf in
    let position : ℕ = m - suc i in
    let row : position + 1 ≡ suc m - suc i = omega arith in
    let above : suc m - (position + 1) ≡ suc i = omega arith in
    record {
      position = position;
      there = omega (arith, size);
      is = needed_above (suc m) leaf position (omega arith) ∙ (λ j. 2 ^ row j - 1 + sibling (leaf / 2 ^ above j));
    }

-- the numbers are those of nodes
needed_below : (m leaf k : ℕ) → leaf < 2 ^ m → k < length (needed_numbers m leaf) → get_or (needed_numbers m leaf) k 0 + 1 < 2 ^ m + 2 ^ m
needed_below zero leaf zero inside below = omega arith
needed_below zero leaf (suc k) inside below = absurd (omega arith)
needed_below (suc m) leaf k inside below =
    let size = length-needed_numbers (suc m) leaf in
    let double = next_power m in
    let next : 2 ^ suc m ≡ 2 ^ (m + 1) = ap (λ (j : ℕ). 2 ^ j) (omega arith) in
    elim (cases_lt k m) [
      | inl above ↦
          let rows : ℕ = suc m - (k + 1) in
          let sum : k + 1 + rows ≡ suc m = omega arith in
          let within : leaf < 2 ^ (k + 1 + rows) = rw sum inside in
          let position = sibling_below (k + 1) (leaf / 2 ^ rows) (omega arith) (shr_below leaf (k + 1) rows within) in
          omega (arith, needed_above (suc m) leaf k (omega arith), node_below (k + 1) (suc m) (sibling (leaf / 2 ^ rows)) (omega arith) position)
      | inr last ↦ elim (cases_eq k m) [
        | inl left ↦ omega (arith, needed_left (suc m) leaf k (omega arith), node_below (suc m) (suc m) (leaf / 2 * 2) (omega arith) (omega arith))
        | inr right ↦
            let here : k ≡ suc m = omega (arith, size) in
            omega (arith, needed_right (suc m) leaf k (omega arith) here, node_below (suc m) (suc m) (leaf / 2 * 2 + 1) (omega arith) (omega arith))
      ]
    ]

module _ (leaves : List (List ℕ)) (leaf : ℕ) (hashes : AreHashes leaves) (inside : leaf < length leaves) (few : length leaves ≤ 2 ^ 8) where
  -- each number that a leaf needs is that of a hash
  pub needed_hashes : (k : ℕ) → k < length (needed_numbers (height (length leaves)) leaf)
      → length (get_or (tree_nodes leaves) (get_or (needed_numbers (height (length leaves)) leaf) k 0) []) ≡ 32
  needed_hashes k below =
      let m : ℕ = height (length leaves) in
      let within : leaf < 2 ^ m = omega (arith, height_room (length leaves)) in
      let nodes : length (tree_nodes leaves) + 1 ≡ 2 ^ m + 2 ^ m = length-tree_nodes leaves ∙ next_power m in
      tree_nodes_are_hashes leaves hashes (get_or (needed_numbers m leaf) k 0) (omega (arith, needed_below m leaf k within below, nodes))

  abbrev numbers : List ℕ
  numbers = needed_numbers (height (length leaves)) leaf

  within : leaf < 2 ^ height (length leaves)
  within = omega (arith, inside, height_room (length leaves))

  -- each hash that the leaf needs is found by its number
  found : (n : ℕ) → Stands numbers n → carried_hash (entries_in (share_hashes leaves leaf)) n ≡ Some (get_or (tree_nodes leaves) n [])
  found n stands =
      let m : ℕ = height (length leaves) in
      let f : ℕ → List ℕ = λ k. get_or (tree_nodes leaves) k [] in
      let width = pow-le-pow_right {n = 2} (omega arith) {i = m} {j = 8} (height_below (length leaves) 8 few) in
      let small : (k : ℕ) → k < length numbers → get_or numbers k 0 < 2 ^ 16 = λ k below. omega (arith, needed_below m leaf k within below, width) in
      ap (λ (l : List (List ℕ)). carried_hash l n) (entries_are f numbers needed_hashes) ∙ carried_at f numbers stands.position n small stands.there stands.is

  pub siblings_found : (i : ℕ) → i < height (length leaves)
      → carried_hash (entries_in (share_hashes leaves leaf)) (sibling_number (height (length leaves)) leaf i) ≡ Some (get_or (siblings_of leaves leaf) i [])
  siblings_found i below =
      let m : ℕ = height (length leaves) in
      let f : ℕ → List ℕ = λ k. get_or (tree_nodes leaves) k [] in
      found (sibling_number m leaf i) (sibling_stands m leaf i below within)
      ∙ ap (λ (h : List ℕ). Some h) (sym (get_or-map-range_with_len (λ j. f (sibling_number m leaf j)) 0 m i i [] below (zero-add i)))

  -- so the share hashes of a leaf, taken from its tree, lead to the root
  pub own_hashes_lead : LeadsByEntries (length leaves) (tree_root leaves) leaf (get_or leaves leaf []) (entries_in (share_hashes leaves leaf))
  own_hashes_lead =
      let m : ℕ = height (length leaves) in
      let own : get_or (tree_nodes leaves) (node_number m leaf) [] ≡ get_or leaves leaf [] =
      tree_nodes_node leaves m leaf (omega arith) within ∙ node-leaf m (padded leaves) leaf ∙ padded_to-leaf (2 ^ m) leaves leaf inside in
      record {
        siblings = siblings_of leaves leaf;
        own = found (node_number m leaf) (own_stands m leaf within) ∙ ap (λ (h : List ℕ). Some h) own;
        carried = siblings_found;
        leads = siblings_of-lead leaves leaf inside;
      }
