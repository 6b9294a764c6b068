-- One row of nodes, whose parents are told one after another.
use Rattle.std.proofs.Common.{◌≡◌, ◌≢◌, ◌⊎◌, ℕ, suc, ◌+◌, ◌-◌, ◌*◌, ◌/◌, ◌%◌, ◌^◌, ◌<◌, ◌≤◌, List, [], ◌∷◌, ◌++◌, length, Some, inl, inr, slice_get, slice_index_or, ap, sym, subst, ◌∙◌, arith}
use Rattle.std.proofs.Math.Nat.{div-lt_iff_lt-mul}
use Rattle.std.proofs.lemmas.Bool.{cases_eq, cases_lt}
use Rattle.std.proofs.lemmas.List.{get_or_append_left, length-append}
use Rattle.std.proofs.lemmas.Nat.{pow_pos}
use Rattle.lemmas.proofs.Numbers.{next_power}
use Rattle.tagged_hash.specs.TaggedHash.{node_hash}
use Rattle.merkle.specs.Partial.{IsExtended, IsTouched, Known, known_by, parent}
use Rattle.merkle.specs.Tree.{node_count}
use Rattle.merkle.specs.Taking.{grows_not, grows_one, GrowsBy, IsKept, IsListed, IsTold, IsUnjoinable, Joins}
use Rattle.merkle.proofs.PartialLemmas.{IsUnderway, adds_keeps, forced_join, known_more, last_position, not_both, refused_join, told_more, underway_more}

-- numbers of a row
row_begins : (n row : ℕ) → n / 2 ^ row ≡ 1 → 2 ^ row ≤ n
row_begins n row one =
    elim (cases_lt n (2 ^ row)) [
      | inr above ↦ above
      | inl below ↦
          let small : n < 1 * 2 ^ row = omega arith in
          let zero' : n / 2 ^ row < 1 = (div-lt_iff_lt-mul {k = 2 ^ row} {x = n} {y = 1} (pow_pos row)).1 small in
          absurd (omega arith)
    ]

row_ends : (n row : ℕ) → n / 2 ^ row ≡ 1 → n < 2 ^ row + 2 ^ row
row_ends n row one =
    let less : n / 2 ^ row < 2 = omega arith in
    let below : n < 2 * 2 ^ row = (div-lt_iff_lt-mul {k = 2 ^ row} {x = n} {y = 2} (pow_pos row)).0 less in
    omega (arith, below)

row_is : (n row : ℕ) → 2 ^ row ≤ n → n < 2 ^ row + 2 ^ row → n / 2 ^ row ≡ 1
row_is n row low high =
    let two : n < 2 * 2 ^ row = omega arith in
    let less : n / 2 ^ row < 2 = (div-lt_iff_lt-mul {k = 2 ^ row} {x = n} {y = 2} (pow_pos row)).1 two in
    elim (cases_lt (n / 2 ^ row) 1) [
      | inl none ↦
          let below : n < 1 * 2 ^ row = (div-lt_iff_lt-mul {k = 2 ^ row} {x = n} {y = 1} (pow_pos row)).0 none in
          absurd (omega (arith, below))
      | inr some ↦ omega (arith, less)
    ]

twice : (row : ℕ) → 0 < row → 2 ^ row ≡ 2 ^ (row - 1) + 2 ^ (row - 1)
twice row some = let e : row ≡ row - 1 + 1 = omega arith in ap (λ (k : ℕ). 2 ^ k) e ∙ next_power (row - 1)

-- a list that grew by one number at most
longer : (old new : Known) (added added' : List ℕ) (number : ℕ) → GrowsBy old added number new added' → length added ≤ length added'
longer old new added added' number (grows_not alike e) = omega (arith, ap length e)
longer old new added added' number (grows_one none apart e) = omega (arith, ap length e, length-append added (number ∷ []))

same_below : (old new : Known) (added added' : List ℕ) (number : ℕ) → GrowsBy old added number new added'
    → (k : ℕ) → k < length added → slice_index_or added' k 0 ≡ slice_index_or added k 0
same_below old new added added' number (grows_not alike e) k below = ap (λ (l : List ℕ). slice_index_or l k 0) e
same_below old new added added' number (grows_one none apart e) k below =
    ap (λ (l : List ℕ). slice_index_or l k 0) e ∙ get_or_append_left added (number ∷ []) 0 k below

last_or_below : (old new : Known) (added added' : List ℕ) (number : ℕ) → GrowsBy old added number new added'
    → (k : ℕ) → k < length added' → (k < length added) ⊎ (slice_index_or added' k 0 ≡ number)
last_or_below old new added added' number (grows_not alike e) k below = inl (omega (arith, ap length e, below))
last_or_below old new added added' number (grows_one none apart e) k below =
    elim (cases_lt k (length added)) [
      | inl before ↦ inl before
      | inr after ↦
          let last : k ≡ length added = omega (arith, ap length e, length-append added (number ∷ []), below) in
          inr (ap (λ (l : List ℕ). slice_index_or l k 0) e ∙ ap (λ (i : ℕ). slice_index_or (added ++ number ∷ []) i 0) last ∙ last_position added number)
    ]

-- the nodes of the row that stand at the first i positions of the list are told with their siblings; those after the first so many are of
-- the row above
pub record IsRow (leaf_count : ℕ) (padding first : Known) (offers : List (ℕ × List ℕ)) (row listed i : ℕ) (told : Known) (added : List ℕ) : Type 0 where
  pub long : listed ≤ length added
  pub under : IsUnderway leaf_count padding first offers told added
  pub taken : (k number : ℕ) (hash : List ℕ) → slice_get offers k ≡ Some (number, hash) → told number ≡ Some hash
  pub done : (number : ℕ) (hash : List ℕ) → 2 ^ (row + 1) ≤ number + 1 → 0 < number → told number ≡ Some hash → IsTold padding told number
  pub joined : (k : ℕ) → k < i → (slice_index_or added k 0 + 1) / 2 ^ row ≡ 1 → IsTold padding told (slice_index_or added k 0)
  pub later : (k : ℕ) → listed ≤ k → k < length added → slice_index_or added k 0 + 1 < 2 ^ row

module _ (leaf_count : ℕ) (padding first : Known) (offers : List (ℕ × List ℕ)) (row listed i : ℕ) (told : Known) (added : List ℕ)
    (s : IsRow leaf_count padding first offers row listed i told added) where
  -- a node of another row
  pub row_skips : (slice_index_or added i 0 + 1) / 2 ^ row ≢ 1 → IsRow leaf_count padding first offers row listed (i + 1) told added
  row_skips other = record {
    long = s.long;
    under = s.under;
    taken = s.taken;
    done = s.done;
    joined = λ k below one. elim (cases_eq k i) [
      | inl here ↦ absurd (other (ap (λ (n : ℕ). (slice_index_or added n 0 + 1) / 2 ^ row) (sym here) ∙ one))
      | inr before ↦ s.joined k (omega arith) one
    ];
    later = s.later;
  }

  -- a right child whose left sibling stands just before it: the node above the two is told
  module _ (some : 0 < row) (placed : 0 < i) (odd : slice_index_or added (i - 1) 0 % 2 ≡ 1)
      (next : slice_index_or added i 0 ≡ slice_index_or added (i - 1) 0 + 1) where
    abbrev left : ℕ
    left = slice_index_or added (i - 1) 0

    left_in_row : (slice_index_or added i 0 + 1) / 2 ^ row ≡ 1 → (left + 1) / 2 ^ row ≡ 1
    left_in_row one =
        row_is (left + 1) row (omega (arith, next, odd, twice row some, row_begins (slice_index_or added i 0 + 1) row one))
        (omega (arith, next, row_ends (slice_index_or added i 0 + 1) row one))

    same_parent : parent left ≡ parent (slice_index_or added i 0)
    same_parent = omega (arith, next, odd)

    told_beside : IsTold padding told left → IsTold padding told (slice_index_or added i 0)
    told_beside t = record {
      left = t.left;
      right = t.right;
      knows_left = subst (λ (p : ℕ). known_by padding told (2 * p + 1) ≡ Some t.left) same_parent t.knows_left;
      knows_right = subst (λ (p : ℕ). known_by padding told (2 * p + 2) ≡ Some t.right) same_parent t.knows_right;
      told_parent = subst (λ (p : ℕ). told p ≡ Some (node_hash t.left t.right)) same_parent t.told_parent;
    }

    pub row_follows : IsRow leaf_count padding first offers row listed (i + 1) told added
    row_follows = record {
      long = s.long;
      under = s.under;
      taken = s.taken;
      done = s.done;
      joined = λ k below one. elim (cases_eq k i) [
        | inl here ↦
            let in_row : (slice_index_or added i 0 + 1) / 2 ^ row ≡ 1 = ap (λ (n : ℕ). (slice_index_or added n 0 + 1) / 2 ^ row) (sym here) ∙ one in
            subst (λ (n : ℕ). IsTold padding told (slice_index_or added n 0)) (sym here) (told_beside (s.joined (i - 1) (omega (arith, placed)) (left_in_row in_row)))
        | inr before ↦ s.joined k (omega arith) one
      ];
      later = s.later;
    }

  -- a node of this row
  module _ (below : i < listed) (some : 0 < row) (number : ℕ) (is : number ≡ slice_index_or added i 0) (one : (number + 1) / 2 ^ row ≡ 1) where
    number_begins : 2 ^ row ≤ number + 1
    number_begins = row_begins (number + 1) row one

    number_ends : number + 1 < 2 ^ row + 2 ^ row
    number_ends = row_ends (number + 1) row one

    pub number_some : 0 < number
    number_some = omega (arith, number_begins, twice row some, pow_pos (row - 1))

    number_listed : IsListed added number
    number_listed = (i, omega (arith, s.long), sym is)

    pub number_inside : number < node_count leaf_count
    number_inside = let t = s.under.listed number number_listed in s.under.inside number t.0 t.1

    number_touched : IsTouched offers number
    number_touched =
        let t = s.under.listed number number_listed in
        elim (s.under.touched number t.0 t.1) [
          | inl before ↦ absurd (not_both (first number) t.0 (s.under.grown.fresh number number_listed) before)
          | inr touched ↦ touched
        ]

    parent_touched : IsTouched offers (parent number)
    parent_touched = let t = number_touched in record {
      position = t.position;
      below = t.below;
      hash = t.hash;
      rows = suc t.rows;
      offered = t.offered;
      above = ap parent t.above;
    }

    parent_before : parent number + 1 < 2 ^ row
    parent_before = omega (arith, number_ends, twice row some)

    -- the node above it can't be told
    pub row_refused : IsUnjoinable padding told number → (new : Known) → ¬ IsExtended leaf_count (known_by padding first) offers new
    row_refused bad =
        refused_join leaf_count padding first offers told added s.under s.taken (2 ^ (row + 1)) s.done number number_some number_touched
        (omega (arith, next_power row, number_begins)) (omega (arith, next_power row, twice row some, number_begins)) bad

    -- the node above it is told
    module _ (new : Known) (added' : List ℕ) (joins : Joins padding told number new) (grows : GrowsBy told added (parent number) new added') where
      more_under : IsUnderway leaf_count padding first offers new added'
      more_under =
          underway_more leaf_count padding first offers told added (parent number) (node_hash joins.left joins.right) new added' s.under joins.adds grows
          parent_touched (omega (arith, number_inside))
          (forced_join leaf_count padding first offers told added s.under s.taken (2 ^ (row + 1)) s.done number number_some number_touched
          joins.left joins.right joins.knows_left joins.knows_right)

      stays : (q : ℕ) (h : List ℕ) → told q ≡ Some h → new q ≡ Some h
      stays = adds_keeps leaf_count padding first offers told new (parent number) (node_hash joins.left joins.right) joins.adds

      stays_told : (q : ℕ) → IsTold padding told q → IsTold padding new q
      stays_told = told_more padding told new stays more_under.empty

      now_told : IsTold padding new number
      now_told = record {
        left = joins.left;
        right = joins.right;
        knows_left = known_more padding told new stays more_under.empty (2 * parent number + 1) joins.left joins.knows_left;
        knows_right = known_more padding told new stays more_under.empty (2 * parent number + 2) joins.right joins.knows_right;
        told_parent = joins.adds.here;
      }

      pub row_joins : IsRow leaf_count padding first offers row listed (i + 1) new added'
      row_joins = record {
        long = omega (arith, s.long, longer told new added added' (parent number) grows);
        under = more_under;
        taken = λ k q hash here. stays q hash (s.taken k q hash here);
        done = λ q hash high positive e.
            let apart : q ≢ parent number = λ same. omega (arith, same, high, parent_before, next_power row) in
            stays_told q (s.done q hash high positive (sym (joins.adds.apart q apart) ∙ e));
        joined = λ k low one'.
            let there : k < length added = omega (arith, s.long) in
            let value = same_below told new added added' (parent number) grows k there in
            elim (cases_eq k i) [
              | inl here ↦
                  let at : number ≡ slice_index_or added' k 0 = is ∙ ap (λ (n : ℕ). slice_index_or added n 0) (sym here) ∙ sym value in
                  subst (IsTold padding new) at now_told
              | inr before ↦
                  let e : (slice_index_or added k 0 + 1) / 2 ^ row ≡ 1 = ap (λ (n : ℕ). (n + 1) / 2 ^ row) (sym value) ∙ one' in
                  subst (IsTold padding new) (sym value) (stays_told (slice_index_or added k 0) (s.joined k (omega arith) e))
            ];
        later = λ k after within. elim (last_or_below told new added added' (parent number) grows k within) [
          | inl before ↦ omega (arith, same_below told new added added' (parent number) grows k before, s.later k after before)
          | inr last ↦ omega (arith, last, parent_before)
        ];
      }

  -- all nodes of the row
  pub row_done : listed ≤ i → (root : List ℕ) → IsKept leaf_count padding root first
      → (number : ℕ) (hash : List ℕ) → 2 ^ row ≤ number + 1 → 0 < number → told number ≡ Some hash → IsTold padding told number
  row_done all root kept number hash high some e =
      elim (cases_lt (number + 1) (2 ^ row + 2 ^ row)) [
        | inr above ↦ s.done number hash (omega (arith, next_power row, above)) some e
        | inl inside ↦ elim (s.under.grown.rest number) [
          | inl before ↦
              told_more padding first told s.under.kept s.under.empty number (kept.joined number hash some (sym before ∙ e))
          | inr l ↦
              let one : (slice_index_or added l.0 0 + 1) / 2 ^ row ≡ 1 =
              ap (λ (n : ℕ). (n + 1) / 2 ^ row) l.2 ∙ row_is (number + 1) row high inside in
              elim (cases_lt l.0 listed) [
                | inl low ↦ subst (IsTold padding told) l.2 (s.joined l.0 (omega arith) one)
                | inr late ↦ absurd (omega (arith, s.later l.0 late l.1, l.2, high))
              ]
        ]
      ]
