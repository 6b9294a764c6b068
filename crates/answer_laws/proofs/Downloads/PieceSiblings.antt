-- The nodes of a piece come with their siblings.
use Rattle.std.proofs.Common.{◌≡◌, ◌⊎◌, ℕ, zero, suc, ◌+◌, ◌-◌, ◌*◌, ◌/◌, ◌%◌, ◌^◌, ◌<◌, ◌≤◌, min, List, [], ◌∷◌, length, get_or, Some, is_some, true, false, inl, inr, ap, subst, sym, ◌∙◌, arith}
use Rattle.std.specs.Int.{div_ceil}
use Rattle.std.specs.Prelude.{slice_get}
use Rattle.std.proofs.Math.Nat.{div-div-eq-div-mul, div-mul-le_self, lt_of_mul-lt-mul_left, mul-le-mul_right, pow-le-pow_right}
use Rattle.std.proofs.lemmas.Bool.{cases_eq, cases_lt}
use Rattle.std.proofs.lemmas.Grind.{div_ceil_times}
use Rattle.std.proofs.lemmas.Nat.{div-add-mod', div-mul-add, div_below, mod_below, pow_pos, pow-add, shr_below}
use Rattle.lemmas.proofs.Options.{some_of}
use Rattle.tagged_hash.specs.TaggedHash.{node_hash}
use Rattle.merkle.specs.Offers.{AreWithSiblings, IsThere}
use Rattle.merkle.specs.Partial.{IsPartial, IsTouched, PartialState, ancestor, is_padding, known_at, padding_hash, parent, position_in_row, row_of}
use Rattle.merkle.specs.Tree.{height, node_count, node_number}
use Rattle.merkle.proofs.PaddingLemmas.{is_padding-before, is_padding-there}
use Rattle.merkle.proofs.StateLemmas.{number_position, number_row}
use Rattle.share_layout.specs.Geometry.{segment_count}
use Rattle.share_verify.specs.TreeSection.{hashes_in}
use Rattle.share_verify.proofs.ChunkLemmas.{length-first_chunks}
use Rattle.download_parts.specs.Level.{end_node, tree_height}
use Rattle.download_parts.specs.Level as level
use Rattle.download_parts.specs.Plan.{nodes_of}
use Rattle.download_parts.proofs.NumberLemmas.{div_le, piece_begins}
use Rattle.download_parts.proofs.PartLemmas.{are_groups, piece_lies}
use Rattle.download_parts.specs.Offers.{offered_nodes}
use Rattle.answer_laws.specs.Downloads.Siblings.{PiecesHaveSiblings}
use Rattle.answer_laws.proofs.Downloads.NodeLemmas.{ancestor_is, ancestor_more, ancestor_top, left_is, right_is}

-- ---- what is offered

offered_at : (row position : ℕ) (hashes : List (List ℕ)) (k : ℕ) → k < length hashes
    → slice_get (offered_nodes row position hashes) k ≡ Some (node_number row (position + k), get_or hashes k [])
offered_at row position [] k there = absurd (omega (arith, there))
offered_at row position (hash ∷ hashes) zero there = let same : position ≡ position + 0 = omega arith in ap (λ n. Some (node_number row n, hash)) same
offered_at row position (hash ∷ hashes) (suc k) there =
    let same : position + 1 + k ≡ position + suc k = omega arith in
    offered_at row (position + 1) hashes k (omega (arith, there)) ∙ ap (λ n. Some (node_number row n, get_or hashes k [])) same

same_number : (offer : ℕ × List ℕ) (number : ℕ) (hash : List ℕ) → Some offer ≡ Some (number, hash) → offer.0 ≡ number
same_number offer number hash e = cc

offered_where : (row position : ℕ) (hashes : List (List ℕ)) (k number : ℕ) (hash : List ℕ) → slice_get (offered_nodes row position hashes) k ≡ Some (number, hash)
    → (k < length hashes) × (node_number row (position + k) ≡ number)
offered_where row position [] k number hash e = absurd cc
offered_where row position (first ∷ hashes) zero number hash e =
    let same : position + 0 ≡ position = omega arith in
    (omega arith, ap (node_number row) same ∙ same_number (node_number row position, first) number hash e)
offered_where row position (first ∷ hashes) (suc k) number hash e =
    let rest = offered_where row (position + 1) hashes k number hash e in
    let same : position + suc k ≡ position + 1 + k = omega arith in
    (omega (arith, rest.0), ap (node_number row) same ∙ rest.1)

same_hash : (offer : ℕ × List ℕ) (number : ℕ) (hash : List ℕ) → Some offer ≡ Some (number, hash) → hash ≡ offer.1
same_hash offer number hash e = cc

-- what is offered at a position
pub offered_what : (row position : ℕ) (hashes : List (List ℕ)) (k number : ℕ) (hash : List ℕ) → slice_get (offered_nodes row position hashes) k ≡ Some (number, hash)
    → (k < length hashes) × (node_number row (position + k) ≡ number) × (hash ≡ get_or hashes k [])
offered_what row position hashes k number hash e =
    let found = offered_where row position hashes k number hash e in
    (found.0, found.1, same_hash (node_number row (position + k), get_or hashes k []) number hash (sym (offered_at row position hashes k found.0) ∙ e))

-- ---- whole groups of a row, of which what is above is known

module _ (p : PartialState) (r from count : ℕ) (hs : List (List ℕ)) (sound : IsPartial p) (low : r ≤ height p.leaf_count) (inside : from + count ≤ 2 ^ r)
    (within : from + count ≤ div_ceil p.leaf_count (2 ^ (height p.leaf_count - r))) (long : length hs ≡ count) (begin : from % 2 ^ min r 7 ≡ 0)
    (end : ((from + count) % 2 ^ min r 7 ≡ 0) ⊎ (from + count ≡ div_ceil p.leaf_count (2 ^ (height p.leaf_count - r))))
    (top : (position : ℕ) → from ≤ position → position < from + count → is_some (known_at p (node_number (r - min r 7) (position / 2 ^ min r 7))) ≡ true) where
  abbrev c : ℕ
  c = p.leaf_count

  abbrev m : ℕ
  m = height c

  abbrev q : ℕ
  q = min r 7

  abbrev k : ℕ
  k = 2 ^ q

  -- how many leaves are below a node of the row
  abbrev w : ℕ
  w = 2 ^ (m - r)

  abbrev offers : List (ℕ × List ℕ)
  offers = offered_nodes r from hs

  -- a node above one that is offered
  here : (rows z : ℕ) → rows ≤ r → from ≤ z * 2 ^ rows → z * 2 ^ rows < from + count → IsTouched offers (node_number (r - rows) z)
  here rows z few first before =
      let x : ℕ = z * 2 ^ rows in
      let i : ℕ = x - from in
      let same : from + i ≡ x = omega (arith, first) in
      let whole : x / 2 ^ rows ≡ z = let e : z * 2 ^ rows ≡ z * 2 ^ rows + 0 = omega arith in ap (λ n. n / 2 ^ rows) e ∙ div-mul-add z (2 ^ rows) 0 (pow_pos rows) in
      record {
        position = i;
        below = node_number r (from + i);
        hash = get_or hs i [];
        rows = rows;
        offered = offered_at r from hs i (omega (arith, first, before, long));
        above = ap (λ n. ancestor rows (node_number r n)) same ∙ ancestor_is rows r x few ∙ ap (node_number (r - rows)) whole;
      }

  -- the leaves below a node so many rows above
  leaves : (rows : ℕ) → rows ≤ r → 2 ^ (m - (r - rows)) ≡ 2 ^ rows * w
  leaves rows few = let e : m - (r - rows) ≡ rows + (m - r) = omega (arith, low, few) in ap (λ n. 2 ^ n) e ∙ pow-add 2 rows (m - r)

  in_tree : (rows z : ℕ) → rows ≤ r → z < 2 ^ (r - rows) → node_number (r - rows) z < node_count c
  in_tree rows z few below = omega (arith, below, pow-le-pow_right {n = 2} (omega arith) {i = r - rows} {j = m} (omega (arith, low)), pow_pos (r - rows))

  first_leaf : (rows z : ℕ) → rows ≤ r → z < 2 ^ (r - rows)
      → position_in_row (node_number (r - rows) z) * 2 ^ (m - row_of (node_number (r - rows) z)) ≡ z * 2 ^ rows * w
  first_leaf rows z few below =
      let row = number_row (r - rows) z below in
      let position = number_position (r - rows) z below in
      let moved : position_in_row (node_number (r - rows) z) * 2 ^ (m - row_of (node_number (r - rows) z)) ≡ z * 2 ^ (m - (r - rows)) = λ i. position i * 2 ^ (m - row i) in
      moved ∙ ap (λ n. z * n) (leaves rows few) ∙ omega arith

  -- a node over empty leaves
  outside : (rows z : ℕ) → rows ≤ r → z < 2 ^ (r - rows) → c ≤ z * 2 ^ rows * w → (hash : List ℕ) × (known_at p (node_number (r - rows) z) ≡ Some hash)
  outside rows z few below past =
      let number = node_number (r - rows) z in
      (padding_hash c number, sound.empty number (is_padding-there c number (in_tree rows z few below) (omega (arith, first_leaf rows z few below, past))))

  -- a node above one that has a leaf below it
  own : (rows x : ℕ) → rows ≤ r → x < from + count → is_padding c (ancestor rows (node_number r x)) ≡ false
  own rows x few before =
      let y : ℕ = x / 2 ^ rows in
      let sum : r - rows + rows ≡ r = omega (arith, few) in
      let below : y < 2 ^ (r - rows) = shr_below x (r - rows) rows (rw sum (omega (arith, before, inside))) in
      let some : w * x < c = piece_begins c w x (pow_pos (m - r)) (omega (arith, before, within)) in
      let less = mul-le-mul_right {m = y * 2 ^ rows} {n = x} w (div-mul-le_self x (2 ^ rows)) in
      ap (is_padding c) (ancestor_is rows r x few)
      ∙ is_padding-before c (node_number (r - rows) y) (in_tree rows y few below) (omega (arith, first_leaf rows y few below, less, some))

  -- within a group both are there: offered, or over empty leaves
  in_group : (rows x z : ℕ) → rows < q → from ≤ x → x < from + count → z / 2 ≡ x / 2 ^ rows / 2 → IsThere p offers (node_number (r - rows) z)
  in_group rows x z less first before same =
      let few : rows ≤ r = omega (arith, less) in
      let l : ℕ = 2 ^ rows in
      let e : ℕ = 2 ^ (q - rows - 1) in
      let split : k ≡ l * (2 * e) =
      let sum : q ≡ rows + (1 + (q - rows - 1)) = omega (arith, less) in
      ap (λ n. 2 ^ n) sum ∙ pow-add 2 rows (1 + (q - rows - 1)) ∙ ap (λ n. l * n) (pow-add 2 1 (q - rows - 1)) in
      let h : ℕ = x / l / 2 in
      let u : ℕ = x / k in
      let group : h / e ≡ u = div-div-eq-div-mul (x / l) 2 e ∙ div-div-eq-div-mul x l (2 * e) ∙ ap (λ n. x / n) (sym split) in
      let from_h : u * e ≤ h = omega (arith, div-mul-le_self h e, ap (λ n. n * e) group) in
      let upto_h : h + 1 ≤ (u + 1) * e = omega (arith, div-add-mod' h e, mod_below h e (pow_pos (q - rows - 1)), ap (λ n. n * e) group) in
      let low_z : 2 * h ≤ z = omega (arith, same) in
      let high_z : z + 1 ≤ 2 * h + 2 = omega (arith, same) in
      let begins : u * k ≤ z * l = omega (arith, ap (λ n. u * n) split, mul-le-mul_right {m = u * e} {n = h} (2 * l) from_h, mul-le-mul_right {m = 2 * h} {n = z} l low_z) in
      let ends : (z + 1) * l ≤ (u + 1) * k =
      omega (arith, ap (λ n. (u + 1) * n) split, mul-le-mul_right {m = h + 1} {n = (u + 1) * e} (2 * l) upto_h, mul-le-mul_right {m = z + 1} {n = 2 * h + 2} l high_z) in
      let k_some : 0 < k = pow_pos q in
      let whole : from ≡ from / k * k = omega (arith, div-add-mod' from k, begin) in
      let starts : from ≤ u * k = omega (arith, whole, mul-le-mul_right {m = from / k} {n = u} k (div_le from x k k_some first)) in
      elim (cases_lt (z * l) (from + count)) [
        | inl offered ↦ inl (here rows z few (omega (arith, starts, begins)) offered)
        | inr behind ↦ elim end [
          | inl full ↦
              let last : from + count ≡ (from + count) / k * k = omega (arith, div-add-mod' (from + count) k, full) in
              let less : u < (from + count) / k = div_below x k ((from + count) / k) k_some (omega (arith, last, before)) in
              let fewer : u + 1 ≤ (from + count) / k = omega (arith, less) in
              absurd (omega (arith, ends, behind, last, mul-le-mul_right {m = u + 1} {n = (from + count) / k} k fewer, pow_pos rows))
          | inr last ↦
              let past : c ≤ z * l * w = omega (arith, (div_ceil_times c w (pow_pos (m - r))).0, mul-le-mul_right {m = div_ceil c w} {n = z * l} w (omega (arith, last, behind))) in
              let of_row : 2 ^ r ≡ 2 ^ (r - q) * k = let sum : r ≡ r - q + q = omega arith in ap (λ n. 2 ^ n) sum ∙ pow-add 2 (r - q) q in
              let of_rows : 2 ^ r ≡ 2 ^ (r - rows) * l = let sum : r ≡ r - rows + rows = omega (arith, few) in ap (λ n. 2 ^ n) sum ∙ pow-add 2 (r - rows) rows in
              let less : u < 2 ^ (r - q) = div_below x k (2 ^ (r - q)) k_some (omega (arith, of_row, before, inside)) in
              let fewer : u + 1 ≤ 2 ^ (r - q) = omega (arith, less) in
              let below : z < 2 ^ (r - rows) =
              lt_of_mul-lt-mul_left l {m = z} {n = 2 ^ (r - rows)} (omega (arith, ends, of_row, of_rows, mul-le-mul_right {m = u + 1} {n = 2 ^ (r - q)} k fewer, pow_pos rows)) in
              inr (outside rows z few below past)
        ]
      ]

  -- from the top of a group upward each node is known
  known_up : (x : ℕ) → from ≤ x → x < from + count → (more : ℕ) → (hash : List ℕ) × (known_at p (ancestor more (ancestor q (node_number r x))) ≡ Some hash)
  known_up x first before zero =
      let at = ancestor_is q r x (omega arith) in
      let known = some_of (known_at p (node_number (r - q) (x / k))) (top x first before) in
      (known.0, ap (known_at p) at ∙ known.1)
  known_up x first before (suc more) =
      let here : ancestor (more + q) (node_number r x) ≡ ancestor more (ancestor q (node_number r x)) = ancestor_more more q (node_number r x) in
      let known = known_up x first before more in
      elim (cases_eq (ancestor more (ancestor q (node_number r x))) 0) [
        | inl root ↦ (p.root, ap (λ (n : ℕ). known_at p (parent n)) root ∙ sound.root)
        | inr other ↦
            let few : more + q ≤ r = elim (cases_lt r (more + q)) [
              | inl far ↦ absurd (other (sym here ∙ ancestor_top (more + q) r x (omega (arith, far)) (omega (arith, before, inside))))
              | inr near ↦ near
            ] in
            let j = sound.joined (ancestor more (ancestor q (node_number r x))) known.0 (omega (arith, other)) (ap (is_padding c) (sym here) ∙ own (more + q) x few before) known.1 in
            (node_hash j.left j.right, j.knows_parent)
      ]

  both : (x rows : ℕ) → from ≤ x → x < from + count → 0 < ancestor rows (node_number r x)
      → IsThere p offers (2 * parent (ancestor rows (node_number r x)) + 1) × IsThere p offers (2 * parent (ancestor rows (node_number r x)) + 2)
  both x rows first before some =
      let few : rows < r = elim (cases_lt rows r) [ inl near ↦ near | inr far ↦ absurd (omega (arith, some, ancestor_top rows r x far (omega (arith, before, inside)))) ] in
      elim (cases_lt rows q) [
        | inl less ↦
            let y : ℕ = x / 2 ^ rows in
            let at = ancestor_is rows r x (omega (arith, few)) in
            let left = ap (λ n. 2 * parent n + 1) at ∙ left_is (r - rows) y (omega (arith, few)) in
            let right = ap (λ n. 2 * parent n + 2) at ∙ right_is (r - rows) y (omega (arith, few)) in (
              subst (IsThere p offers) (sym left) (in_group rows x (y / 2 * 2) less first before (omega arith)),
              subst (IsThere p offers) (sym right) (in_group rows x (y / 2 * 2 + 1) less first before (omega arith)),
            )
        | inr more ↦
            let sum : rows - q + q ≡ rows = omega (arith, more) in
            let here : ancestor rows (node_number r x) ≡ ancestor (rows - q) (ancestor q (node_number r x)) =
            ap (λ (n : ℕ). ancestor n (node_number r x)) (sym sum) ∙ ancestor_more (rows - q) q (node_number r x) in
            let known = known_up x first before (rows - q) in
            let j = sound.joined (ancestor rows (node_number r x)) known.0 some (own rows x (omega (arith, few)) before) (ap (known_at p) here ∙ known.1) in
            (inr (j.left, j.knows_left), inr (j.right, j.knows_right))
      ]

  pub groups_have_siblings : AreWithSiblings p offers
  groups_have_siblings number t some =
      let found = offered_where r from hs t.position t.below t.hash t.offered in
      let x : ℕ = from + t.position in
      let is : ancestor t.rows (node_number r x) ≡ number = ap (ancestor t.rows) found.1 ∙ t.above in
      subst (λ n. IsThere p offers (2 * parent n + 1) × IsThere p offers (2 * parent n + 2)) is
      (both x t.rows (omega arith) (omega (arith, found.0, long)) (omega (arith, some, is)))

-- ---- the pieces of a plan

end_most : (m row b count : ℕ) → end_node m row b count ≤ div_ceil count (2 ^ (m - row))
unfolding end_node
end_most m row b count = omega arith

pub pieces_have_siblings : PiecesHaveSiblings
pieces_have_siblings g a b piece p bytes range is sound count tops long =
    let n = nodes_of g a b piece in
    let m : ℕ = tree_height g in
    let row : ℕ = level.row_of m piece.level in
    let lie = piece_lies g a b piece range is in
    let groups = are_groups g a b piece range is in
    let some = lie.some in
    let most : n.from + n.count ≤ div_ceil (segment_count g) (2 ^ (m - row)) = omega (arith, some, end_most m row b (segment_count g)) in
    let back : segment_count g ≡ p.leaf_count = sym count in
    groups_have_siblings p row n.from n.count (hashes_in bytes) sound
    (subst (λ (c : ℕ). row ≤ height c) back lie.low)
    lie.inside
    (subst (λ (c : ℕ). n.from + n.count ≤ div_ceil c (2 ^ (height c - row))) back most)
    (length-first_chunks 32 (length bytes / 32) bytes ∙ omega (arith, long))
    groups.begin
    (subst (λ (c : ℕ). ((n.from + n.count) % 2 ^ min row 7 ≡ 0) ⊎ (n.from + n.count ≡ div_ceil c (2 ^ (height c - row)))) back groups.end)
    (λ position first before. tops position (first, before))
