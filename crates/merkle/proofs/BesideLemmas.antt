-- Nodes of a tree that is built row by row, where those over empty leaves alone stand there.
use Rattle.std.proofs.Common.{◌≡◌, ◌⊎◌, ℕ, ◌+◌, ◌-◌, ◌*◌, ◌^◌, ◌<◌, ◌≤◌, false, List, [], length, take, drop, get_or, inl, inr, ap, sym, ◌∙◌, arith}
use Rattle.std.proofs.Math.Nat.{pow-le-pow_right}
use Rattle.std.proofs.lemmas.Bool.{cases_lt, true≢false}
use Rattle.std.proofs.lemmas.List.{ext_get_or, get_or-drop, get_or-take, length-drop, length-take-le}
use Rattle.std.proofs.lemmas.Nat.{pow_pos}
use Rattle.lemmas.proofs.Numbers.{next_power}
use Rattle.tagged_hash.specs.TaggedHash.{node_hash}
use Rattle.merkle.specs.Nodes.{HasPadding, IsPair, own_end}
use Rattle.merkle.specs.Partial.{is_padding}
use Rattle.merkle.specs.Tree.{height, leaves_among, node_count, tree_nodes}
use Rattle.merkle.proofs.HeightLemmas.{height_room}
use Rattle.merkle.proofs.NodesLemmas.{tree_nodes_are}
use Rattle.merkle.proofs.OwnRows.{own_before_end, own_end_inside, padded_row, padding_from_end, pairs_from_own}
use Rattle.merkle.proofs.TreeLemmas.{same_behind}

-- the leaves stand in their places, and the nodes from a row on are hashes of their children
pub record AreBuiltFrom (leaves nodes : List (List ℕ)) (row : ℕ) : Type 0 where
  pub full : length nodes ≡ node_count (length leaves)
  pub leaves_are : leaves_among nodes (length leaves) ≡ leaves
  pub padding : HasPadding (length leaves) nodes
  pub low : row ≤ height (length leaves)
  pub made : (i : ℕ) → 2 ^ row ≤ i + 1 → i + 1 < 2 ^ height (length leaves) → is_padding (length leaves) i ≡ false → IsPair nodes i

module _ (leaves old new : List (List ℕ)) (some : 0 < length leaves) (long : length new ≡ length old) where
  abbrev n : ℕ
  n = length leaves

  abbrev m : ℕ
  m = height (length leaves)

  -- once the leaves stand in their places
  module _ (full : length old ≡ node_count n) (padding : HasPadding n old)
      (made : (k : ℕ) → k < n → get_or new (2 ^ m - 1 + k) [] ≡ get_or leaves k [])
      (others : (k : ℕ) → (k < 2 ^ m - 1) ⊎ (2 ^ m - 1 + n ≤ k) → get_or new k [] ≡ get_or old k []) where
    all_leaves : leaves_among new n ≡ leaves
    all_leaves =
        let room : n ≤ length (drop (2 ^ m - 1) new) = omega (arith, length-drop (2 ^ m - 1) new, long, full, height_room n, pow_pos m) in
        let count : length (take n (drop (2 ^ m - 1) new)) ≡ n = length-take-le n (drop (2 ^ m - 1) new) room in
        ext_get_or [] (take n (drop (2 ^ m - 1) new)) leaves count (λ i below.
        let own : i < n = omega (arith, below, count) in
        get_or-take n (drop (2 ^ m - 1) new) i [] own ∙ get_or-drop (2 ^ m - 1) new i [] ∙ made i own)

    last_end : own_end n m ≡ 2 ^ m + (n - 1)
    last_end = let none : m - m ≡ 0 = omega arith in rw none (omega arith)

    kept_padding : HasPadding n new
    kept_padding number is = elim (cases_lt number (2 ^ m - 1 + n)) [
      | inr behind ↦ others number (inr behind) ∙ padding number is
      | inl before ↦ elim (cases_lt number (2 ^ m - 1)) [
        | inl above ↦ others number (inl above) ∙ padding number is
        | inr own ↦
            absurd (true≢false (sym is ∙ own_before_end n some m (omega arith) number (omega (arith, own, pow_pos m))
            (omega (arith, before, height_room n, pow_pos m)) (omega (arith, before, last_end, some, pow_pos m))))
      ]
    ]

    pub leaves_put : AreBuiltFrom leaves new m
    leaves_put = record {
      full = long ∙ full;
      leaves_are = all_leaves;
      padding = kept_padding;
      low = omega arith;
      made = λ i from below other. absurd (omega (arith, from, below));
    }

  -- one row more
  module _ (row : ℕ) (low : row < m) (built : AreBuiltFrom leaves old (row + 1))
      (made : (k : ℕ) → 2 ^ row - 1 ≤ k → k < own_end n row → get_or new k [] ≡ node_hash (get_or old (2 * k + 1) []) (get_or old (2 * k + 2) []))
      (others : (k : ℕ) → (k < 2 ^ row - 1) ⊎ (own_end n row ≤ k) → get_or new k [] ≡ get_or old k []) where
    within : own_end n row < 2 ^ row + 2 ^ row
    within = own_end_inside n some row (omega (arith, low))

    last_below : 2 ^ row + 2 ^ row ≤ 2 ^ m
    last_below = omega (arith, next_power row, pow-le-pow_right {n = 2} (omega arith) {i = row + 1} {j = m} (omega (arith, low)))

    row_padding : HasPadding n new
    row_padding number is = elim (cases_lt number (own_end n row)) [
      | inr behind ↦ others number (inr behind) ∙ built.padding number is
      | inl before ↦ elim (cases_lt number (2 ^ row - 1)) [
        | inl above ↦ others number (inl above) ∙ built.padding number is
        | inr own ↦
            absurd (true≢false (sym is ∙ own_before_end n some row (omega (arith, low)) number (omega (arith, own, pow_pos row)) (omega (arith, before, within)) before))
      ]
    ]

    -- nodes behind the row are as they were
    behind_row : (k : ℕ) → own_end n row ≤ k → get_or new k [] ≡ get_or old k []
    behind_row k behind = others k (inr behind)

    row_pairs : (i : ℕ) → 2 ^ row ≤ i + 1 → i + 1 < 2 ^ m → is_padding n i ≡ false → IsPair new i
    row_pairs i from below other =
        let left = behind_row (2 * i + 1) (omega (arith, from, within, pow_pos row)) in
        let right = behind_row (2 * i + 2) (omega (arith, from, within, pow_pos row)) in
        elim (cases_lt i (own_end n row)) [
          | inl own ↦ made i (omega (arith, from)) own ∙ (λ j. node_hash (sym left j) (sym right j))
          | inr behind ↦ elim (cases_lt (i + 1) (2 ^ row + 2 ^ row)) [
            | inl here ↦ absurd (true≢false (sym (padding_from_end n some row (omega (arith, low)) i from here behind) ∙ other))
            | inr lower ↦ behind_row i behind ∙ built.made i (omega (arith, lower, next_power row)) below other ∙ (λ j. node_hash (sym left j) (sym right j))
          ]
        ]

    pub row_built : AreBuiltFrom leaves new row
    row_built = record {
      full = long ∙ built.full;
      leaves_are = ap (take n) (same_behind (2 ^ m - 1) old new long (λ k low. behind_row k (omega (arith, low, within, last_below)))) ∙ built.leaves_are;
      padding = row_padding;
      low = omega (arith, low);
      made = row_pairs;
    }

pub all_rows : (leaves nodes : List (List ℕ)) → AreBuiltFrom leaves nodes 0 → nodes ≡ tree_nodes leaves
all_rows leaves nodes built =
    let n : ℕ = length leaves in
    tree_nodes_are n nodes built.full (pairs_from_own n nodes built.full built.padding (λ i below other. built.made i (omega arith) below other))
    (padded_row n nodes built.full built.padding)
    ∙ ap tree_nodes built.leaves_are
