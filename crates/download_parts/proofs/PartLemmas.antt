-- The parts of a plan lie in their sections, and apart from each other.
use Rattle.std.proofs.Common.{◌≡◌, ◌⊎◌, ℕ, ◌+◌, ◌-◌, ◌*◌, ◌/◌, ◌%◌, ◌^◌, ◌<◌, ◌≤◌, max, min, inl, inr, ap, refl, sym, subst, ◌∙◌, arith}
use Rattle.std.specs.Int.{div_ceil}
use Rattle.std.proofs.Math.Nat.{mul-le-mul_right, mul-mod_left, pow-le-pow_right}
use Rattle.std.proofs.lemmas.Bool.{cases_lt, cases_order}
use Rattle.std.proofs.lemmas.Nat.{div-add-mod', div_below, le-div, mod_below, pow_pos, pow-add}
use Rattle.std.proofs.lemmas.Grind.{div_ceil_times}
use Rattle.merkle.proofs.HeightLemmas.{height_below, height_room}
use Rattle.share_layout.specs.Geometry.{Geometry, IsGeometry, block_size, hashes_size, segment_count, share_data_size, tree_size}
use Rattle.share_layout.specs.declared.layout.Layout.{Layout}
use Rattle.share_layout.specs.declared.layout.Layout.TheVariants.{One, Two}
use Rattle.share_layout.specs.Layout.{header_size, layout_of, offsets_of}
use Rattle.share_layout.specs.Pieces.{block_length}
use Rattle.share_layout.proofs.GeometryLemmas.{share_low}
use Rattle.download_parts.specs.Level.{IsAbove, first_node, group_size, level_at, level_count, row_of, tree_height}
use Rattle.download_parts.specs.Plan.{IsAmong, IsNodePiece, IsPart, block_start, cut_at, data_end, data_pieces, data_offset, length_of, max_nodes, max_read, nodes_at, nodes_of, nodes_offset, offset_at, piece_at, pieces_of, offset_of, run_reads, run_size}
use Rattle.download_parts.specs.Range.{IsRange}
use Rattle.download_parts.specs.PlanLaws.{AreApart, IsInBlock, IsInPiece, LevelsHoldGroups, LiesIn, PartsAreApart, PartsHoldTheBlocks, PartsLieInside, PiecesAreGroups, PiecesAreUnderPieces, piece_over, section_end, section_start}
use Rattle.download_parts.specs.declared.level.Level.{Level}
use Rattle.download_parts.specs.declared.part.NodePiece.{NodePiece}
use Rattle.download_parts.specs.declared.part.Nodes.{Nodes}
use Rattle.download_parts.specs.declared.part.Part.{Part}
use Rattle.download_parts.specs.declared.part.Part.TheVariants.{ShareHashes, BlockTree, CiphertextTree, Data}
use Rattle.download_parts.proofs.RunLemmas.{piece_before, piece_begin, piece_from, piece_low, piece_of, piece_rest, piece_rises, piece_steps, pieces_few, reads_some, rise, rises, run_from, run_most, run_room, run_some, short}
use Rattle.download_parts.proofs.NumberLemmas.{below_ceil, div_le, end_inside, end_multiple, first_below_end, first_multiple, group_begins, group_of, group_within, holds_group, piece_begins, reads_above, row_high, rows_rise}

-- headers are not long
header_short : (l : Layout) → header_size l ≤ 68
header_short One = omega arith
header_short Two = omega arith

-- a segment's block begins before the blocks end
pub block_begins : (g : Geometry) (a b : ℕ) → IsRange g a b → a * block_size g < share_data_size g
block_begins g a b r =
    let whole : block_size g * g.needed ≡ g.segment_size = omega (arith, div-add-mod' g.segment_size g.needed, r.valid.multiple) in
    let product : a * (block_size g * g.needed) ≡ a * g.segment_size = ap (λ n. a * n) whole in
    let before : g.segment_size * a < g.size = piece_begins g.size g.segment_size a r.valid.some_segment (let s = r.some in let w = r.within in omega arith) in
    elim (cases_lt (a * block_size g) (share_data_size g)) [
      | inl below ↦ below
      | inr above ↦ absurd (omega (arith, product, before, mul-le-mul_right {m = share_data_size g} {n = a * block_size g} g.needed above, (div_ceil_times g.size g.needed r.valid.some_needed).0))
    ]

pub block_some : (g : Geometry) → IsGeometry g → 0 < block_size g
block_some g valid =
    elim (cases_lt 0 (block_size g)) [
      | inl found ↦ found
      | inr none ↦
          let zero : block_size g ≡ 0 = omega (arith, none) in
          absurd (omega (arith, ap (λ n. n * g.needed) zero, div-add-mod' g.segment_size g.needed, valid.multiple, valid.some_segment))
    ]

pub data_begins : (g : Geometry) (a b : ℕ) → IsRange g a b → block_start g a < data_end g b
data_begins g a b r =
    let s = r.some in
    omega (arith, block_begins g a b r, block_some g r.valid, mul-le-mul_right {m = a + 1} {n = b} (block_size g) (omega arith))

-- the pieces of the data, from the segment `a` on
module _ (g : Geometry) (valid : IsGeometry g) (a : ℕ) where
  pub begin_is : (i : ℕ) → data_offset g a i ≡ block_start g a + piece_begin (run_size g) (run_reads g) i
  unfolding data_offset piece_begin
  begin_is i = omega arith

  pub piece_is : (n : ℕ) → piece_at g a n ≡ piece_of (run_size g) (run_reads g) (n - block_start g a)
  unfolding piece_at piece_of
  piece_is n = refl

  pub offset_is : (n : ℕ) → offset_at g a n ≡ (n - block_start g a) % run_size g % 32768
  unfolding offset_at
  offset_is n = refl

  pub size_some : 0 < run_size g
  size_some = run_some (block_size g) (block_some g valid)

  pub reads_some' : 0 < run_reads g
  reads_some' = reads_some (block_size g) (block_some g valid)

  pub reads_most : run_reads g * 32768 < run_size g + 32768
  reads_most = run_most (block_size g) (block_some g valid)

  pub reads_room : run_size g ≤ run_reads g * 32768
  reads_room = run_room (block_size g) (block_some g valid)

  pub data_from_first : (i : ℕ) → block_start g a ≤ data_offset g a i
  data_from_first i = omega (arith, begin_is i)

  pub data_rises : (i : ℕ) → data_offset g a i < data_offset g a (i + 1)
  data_rises i = omega (arith, begin_is i, begin_is (i + 1), rises (run_size g) (run_reads g) size_some reads_some' reads_most reads_room i)

  pub data_short : (i : ℕ) → data_offset g a (i + 1) ≤ data_offset g a i + 32768
  data_short i = omega (arith, begin_is i, begin_is (i + 1), short (run_size g) (run_reads g) size_some reads_some' reads_most reads_room i)

  pub data_rise : (i j : ℕ) → i ≤ j → data_offset g a i ≤ data_offset g a j
  data_rise i j le = omega (arith, begin_is i, begin_is j, rise (run_size g) (run_reads g) size_some reads_some' reads_most reads_room i j le)

  pub data_from : (n : ℕ) → block_start g a ≤ n → data_offset g a (piece_at g a n) ≤ n
  data_from n from =
      let p = piece_from (run_size g) (run_reads g) size_some reads_some' reads_most reads_room (n - block_start g a) in
      rw (piece_is n) (omega (arith, begin_is (piece_of (run_size g) (run_reads g) (n - block_start g a)), p, from))

  pub data_before : (n : ℕ) → n < data_offset g a (piece_at g a n + 1)
  data_before n =
      let p = piece_before (run_size g) (run_reads g) size_some reads_some' reads_most reads_room (n - block_start g a) in
      rw (piece_is n) (omega (arith, begin_is (piece_of (run_size g) (run_reads g) (n - block_start g a) + 1), p))

  pub data_rest : (n : ℕ) → block_start g a ≤ n → data_offset g a (piece_at g a n) + offset_at g a n ≡ n
  data_rest n from =
      let p = piece_rest (run_size g) (run_reads g) size_some reads_some' reads_most reads_room (n - block_start g a) in
      rw (piece_is n, offset_is n) (omega (arith, begin_is (piece_of (run_size g) (run_reads g) (n - block_start g a)), p, from))

  pub data_more : (n o : ℕ) → n ≤ o → piece_at g a n ≤ piece_at g a o
  data_more n o le =
      rw (piece_is n, piece_is o)
      (piece_rises (run_size g) (run_reads g) size_some reads_some' reads_most reads_room (n - block_start g a) (o - block_start g a) (omega (arith, le)))

  pub runs_before : (i : ℕ) → i / run_reads g * run_size g ≤ i * 32768
  runs_before i =
      omega (arith, run_from (run_size g) (run_reads g) size_some reads_some' reads_most reads_room i, piece_low (run_size g) (run_reads g) size_some reads_some' reads_most reads_room i)

  pub data_low : (i : ℕ) → i < 2 ^ 32 → block_start g a ≤ 2 ^ 40 + 68 → data_offset g a i < 2 ^ 48
  data_low i few low = omega (arith, begin_is i, piece_low (run_size g) (run_reads g) size_some reads_some' reads_most reads_room i, few, low)

  -- no more pieces than of half as many bytes as a read has at most
  pub data_few : (n : ℕ) → piece_at g a n * 16384 ≤ n
  data_few n = rw (piece_is n) (omega (arith, pieces_few (block_size g) (block_some g valid) (n - block_start g a)))

-- a later offset lies in no earlier piece, in any geometry
pub pieces_grow : (g : Geometry) (a n o : ℕ) → n ≤ o → piece_at g a n ≤ piece_at g a o
unfolding piece_at piece_of
pieces_grow g a n o le =
    let block = block_size g in
    let begin = n - block_start g a in
    let end = o - block_start g a in
    elim (cases_lt 0 block) [
      | inl some ↦
          piece_rises (run_size g) (run_reads g) (run_some block some) (reads_some block some) (run_most block some) (run_room block some)
          begin end (omega (arith, le))
      | inr low ↦
          let none : block ≡ 0 = omega (arith, low) in
          let size : run_size g ≡ 0 = ap (λ k. max 1 (max_read / k) * k) none ∙ omega arith in
          let reads : run_reads g ≡ 0 = ap (λ k. div_ceil k max_read) size in
          let first : piece_at g a n ≡ begin / 0 * 0 + begin % 0 / 32768 = λ i. begin / size i * reads i + begin % size i / 32768 in
          let last : piece_at g a o ≡ end / 0 * 0 + end % 0 / 32768 = λ i. end / size i * reads i + end % size i / 32768 in
          omega (arith, first, last, div-add-mod' begin 0, div-add-mod' end 0, le)
    ]

-- and the next offset lies in no later piece than the next
pub pieces_step : (g : Geometry) (a n : ℕ) → piece_at g a (n + 1) ≤ piece_at g a n + 1
unfolding piece_at piece_of
pieces_step g a n =
    let block = block_size g in
    let begin = n - block_start g a in
    let end = n + 1 - block_start g a in
    elim (cases_lt 0 block) [
      | inl some ↦
          piece_steps (run_size g) (run_reads g) (run_some block some) (reads_some block some) (run_most block some) (run_room block some)
          begin end (omega arith)
      | inr low ↦
          let none : block ≡ 0 = omega (arith, low) in
          let size : run_size g ≡ 0 = ap (λ k. max 1 (max_read / k) * k) none ∙ omega arith in
          let reads : run_reads g ≡ 0 = ap (λ k. div_ceil k max_read) size in
          let first : piece_at g a n ≡ begin / 0 * 0 + begin % 0 / 32768 = λ i. begin / size i * reads i + begin % size i / 32768 in
          let last : piece_at g a (n + 1) ≡ end / 0 * 0 + end % 0 / 32768 = λ i. end / size i * reads i + end % size i / 32768 in
          omega (arith, first, last, div-add-mod' begin 0, div-add-mod' end 0)
    ]

-- a piece of the data begins before the blocks end
pub data_inside : (g : Geometry) (a b i : ℕ) → IsRange g a b → i < data_pieces g a b → data_offset g a i < data_end g b
data_inside g a b i r is =
    let last = data_end g b - 1 in
    let some = data_begins g a b r in
    let before = data_rise g r.valid a i (piece_at g a last) (omega (arith, is)) in
    omega (arith, before, data_from g r.valid a last (omega (arith, some)), some)

pub pieces_low : (g : Geometry) (a b : ℕ) → IsRange g a b → data_pieces g a b ≤ 2 ^ 28
pieces_low g a b r = omega (arith, data_few g r.valid a (data_end g b - 1), header_short (layout_of g), share_low g r.valid)

-- some nodes of a row
pub record Lie (m : ℕ) (n : Nodes) : Type 0 where
  pub some : 0 < n.count
  pub few : n.count ≤ max_nodes
  pub inside : n.from + n.count ≤ 2 ^ n.row
  pub low : n.row ≤ m

pub piece_lies : (g : Geometry) (a b : ℕ) (p : NodePiece) → IsRange g a b → IsNodePiece g a b p → Lie (tree_height g) (nodes_of g a b p)
piece_lies g a b p r is =
    let m = tree_height g in
    let row = row_of m p.level in
    let l = level_at g a b p.level in
    let begins : cut_at l p.index < l.end = piece_begins l.end max_nodes (l.first / max_nodes + p.index) (omega arith) (let index = is.index in omega arith) in
    let some = first_below_end m row a b (segment_count g) r.some r.within in
    let high = row_high m p.level is.level in
    let end = end_inside m row b (segment_count g) high.1 (height_room (segment_count g)) in
    record {
      some = omega (arith, begins, some);
      few = omega arith;
      inside = omega (arith, begins, some, end);
      low = high.1;
    }

-- nodes of a tree lie in its section
pub nodes_lie : (g : Geometry) (section : ℕ) (n : Nodes) → Lie (tree_height g) n
    → LiesIn section (section + tree_size g) (nodes_offset section n) (32 * n.count)
nodes_lie g section n l =
    let m = tree_height g in
    let rows = pow-le-pow_right {n = 2} (omega arith) {i = n.row} {j = m} l.low in
    let some = l.some in
    let few = l.few in
    let inside = l.inside in
    record {
      some = omega arith;
      few = omega arith;
      begins = omega arith;
      ends = omega (arith, rows, pow_pos n.row, pow_pos m);
    }

-- the offsets of the sections
hashes_low : (g : Geometry) (a b : ℕ) → IsRange g a b → hashes_size g ≤ 306
hashes_low g a b r = let s = r.valid.shares in omega (arith, height_below g.total 8 (omega arith))

pub lie_inside : PartsLieInside
lie_inside g a b ShareHashes r is = record {
  some = omega arith;
  few = omega (arith, hashes_low g a b r);
  begins = omega arith;
  ends = omega arith;
}
lie_inside g a b (BlockTree p) r is =
    let l = nodes_lie g (offsets_of g).block_tree (nodes_of g a b p) (piece_lies g a b p r is) in
    record { some = l.some; few = l.few; begins = l.begins; ends = omega (arith, l.ends) }
lie_inside g a b (CiphertextTree p) r is =
    let l = nodes_lie g (offsets_of g).ciphertext_tree (nodes_of g a b p) (piece_lies g a b p r is) in
    record { some = l.some; few = l.few; begins = l.begins; ends = omega (arith, l.ends) }
lie_inside g a b (Data i) r is =
    let inside = data_inside g a b i r is in
    let rises = data_rises g r.valid a i in
    let first = data_from_first g r.valid a i in
    let most = data_short g r.valid a i in
    record {
      some = omega (arith, inside, rises);
      few = omega (arith, most);
      begins = omega (arith, first);
      ends = omega (arith, inside, rises);
    }

-- pieces of one level
same_level : (l : Level) (i j : ℕ) → i < j
    → (nodes_at l i).from + (nodes_at l i).count ≤ (nodes_at l j).from
same_level l i j before = omega arith

-- nodes before others in a section
before_nodes : (section : ℕ) (n o : Nodes) → n.row ≡ o.row → n.from + n.count ≤ o.from → nodes_offset section n + 32 * n.count ≤ nodes_offset section o
before_nodes section n o same before = omega (arith, before, ap (λ row. 2 ^ row) same)

above_nodes : (section : ℕ) (n o : Nodes) → n.from + n.count ≤ 2 ^ n.row → n.row < o.row → nodes_offset section n + 32 * n.count ≤ nodes_offset section o
above_nodes section n o inside above =
    let next : 2 ^ n.row * 2 ≤ 2 ^ o.row = omega (arith, pow-le-pow_right {n = 2} (omega arith) {i = n.row + 1} {j = o.row} (omega arith), pow-add 2 n.row 1) in
    omega (arith, inside, next, pow_pos n.row)

-- the pieces of a tree are apart
module _ (g : Geometry) (a b section : ℕ) (r : IsRange g a b) where
  start : NodePiece → ℕ
  start p = nodes_offset section (nodes_of g a b p)

  size : NodePiece → ℕ
  size p = 32 * (nodes_of g a b p).count

  on_level : (l : ℕ) (i j : ℕ) → i < j → nodes_offset section (nodes_at (level_at g a b l) i) + 32 * (nodes_at (level_at g a b l) i).count
      ≤ nodes_offset section (nodes_at (level_at g a b l) j)
  on_level l i j before =
      before_nodes section (nodes_at (level_at g a b l) i) (nodes_at (level_at g a b l) j) refl (same_level (level_at g a b l) i j before)

  above : (p q : NodePiece) → IsNodePiece g a b p → IsNodePiece g a b q → p.level < q.level
      → nodes_offset section (nodes_of g a b p) + 32 * (nodes_of g a b p).count ≤ nodes_offset section (nodes_of g a b q)
  above p q is also low =
      above_nodes section (nodes_of g a b p) (nodes_of g a b q) (piece_lies g a b p r is).inside (rows_rise (tree_height g) p.level q.level low also.level)

  beside : (p q : NodePiece) → p.level ≡ q.level → p.index < q.index
      → nodes_offset section (nodes_of g a b p) + 32 * (nodes_of g a b p).count ≤ nodes_offset section (nodes_of g a b q)
  beside p q same before =
      subst (λ l. nodes_offset section (nodes_of g a b p) + 32 * (nodes_of g a b p).count ≤ nodes_offset section (nodes_at (level_at g a b l) q.index)) same
      (on_level p.level p.index q.index before)

  pub nodes_apart : (p q : NodePiece) → IsNodePiece g a b p → IsNodePiece g a b q → (p ≡ q)
      ⊎ AreApart (nodes_offset section (nodes_of g a b p)) (32 * (nodes_of g a b p).count)
      (nodes_offset section (nodes_of g a b q)) (32 * (nodes_of g a b q).count)
  nodes_apart p q is also =
      elim (cases_order p.level q.level) [
        | inl same ↦ elim (cases_order p.index q.index) [
          | inl one ↦ inl (λ i. record { level = same i; index = one i })
          | inr other ↦ elim other [
            | inl before ↦ inr (inl (beside p q same before))
            | inr after ↦ inr (inr (beside q p (sym same) after))
          ]
        ]
        | inr other ↦ elim other [
          | inl low ↦ inr (inl (above p q is also low))
          | inr high ↦ inr (inr (above q p also is high))
        ]
      ]

-- what lies in an earlier section is before what lies in a later one
earlier : (s e offset len s' e' offset' len' : ℕ) → LiesIn s e offset len → LiesIn s' e' offset' len' → e ≤ s' → offset + len ≤ offset'
earlier s e offset len s' e' offset' len' one other order = let f = one.ends in let t = other.begins in omega arith

data_apart : (g : Geometry) (a b i j : ℕ) → IsRange g a b → (Data i ≡ Data j)
    ⊎ AreApart (offset_of g a b (Data i)) (length_of g a b (Data i)) (offset_of g a b (Data j)) (length_of g a b (Data j))
data_apart g a b i j r =
    elim (cases_order i j) [
      | inl same ↦ inl (ap Data same)
      | inr other ↦ elim other [
        | inl before ↦ inr (inl (omega (arith, data_rise g r.valid a i j (omega (arith, before)), data_rise g r.valid a (i + 1) j (omega (arith, before)))))
        | inr after ↦ inr (inr (omega (arith, data_rise g r.valid a j i (omega (arith, after)), data_rise g r.valid a (j + 1) i (omega (arith, after)))))
      ]
    ]

-- parts of two sections are apart
module _ (g : Geometry) (a b : ℕ) (r : IsRange g a b) (p q : Part) (is : IsPart g a b p) (also : IsPart g a b q) where
  first : section_end (offsets_of g) p ≤ section_start (offsets_of g) q
      → AreApart (offset_of g a b p) (length_of g a b p) (offset_of g a b q) (length_of g a b q)
  first order = inl (earlier _ _ _ _ _ _ _ _ (lie_inside g a b p r is) (lie_inside g a b q r also) order)

  second : section_end (offsets_of g) q ≤ section_start (offsets_of g) p
      → AreApart (offset_of g a b p) (length_of g a b p) (offset_of g a b q) (length_of g a b q)
  second order = inr (earlier _ _ _ _ _ _ _ _ (lie_inside g a b q r also) (lie_inside g a b p r is) order)

one_of : {X Y : Type 0} {x y : X} (f : X → Y) {A : Type 0} → (x ≡ y) ⊎ A → (f x ≡ f y) ⊎ A
one_of f (inl same) = inl (ap f same)
one_of f (inr other) = inr other

pub are_apart : PartsAreApart
are_apart g a b ShareHashes ShareHashes r is also = inl refl
are_apart g a b ShareHashes (BlockTree q) r is also = inr (second g a b r ShareHashes (BlockTree q) is also (omega arith))
are_apart g a b ShareHashes (CiphertextTree q) r is also = inr (second g a b r ShareHashes (CiphertextTree q) is also (omega arith))
are_apart g a b ShareHashes (Data j) r is also = inr (second g a b r ShareHashes (Data j) is also (omega arith))
are_apart g a b (BlockTree p) ShareHashes r is also = inr (first g a b r (BlockTree p) ShareHashes is also (omega arith))
are_apart g a b (BlockTree p) (BlockTree q) r is also = one_of BlockTree (nodes_apart g a b (offsets_of g).block_tree r p q is also)
are_apart g a b (BlockTree p) (CiphertextTree q) r is also = inr (second g a b r (BlockTree p) (CiphertextTree q) is also (omega arith))
are_apart g a b (BlockTree p) (Data j) r is also = inr (second g a b r (BlockTree p) (Data j) is also (omega arith))
are_apart g a b (CiphertextTree p) ShareHashes r is also = inr (first g a b r (CiphertextTree p) ShareHashes is also (omega arith))
are_apart g a b (CiphertextTree p) (BlockTree q) r is also = inr (first g a b r (CiphertextTree p) (BlockTree q) is also (omega arith))
are_apart g a b (CiphertextTree p) (CiphertextTree q) r is also = one_of CiphertextTree (nodes_apart g a b (offsets_of g).ciphertext_tree r p q is also)
are_apart g a b (CiphertextTree p) (Data j) r is also = inr (second g a b r (CiphertextTree p) (Data j) is also (omega arith))
are_apart g a b (Data i) ShareHashes r is also = inr (first g a b r (Data i) ShareHashes is also (omega arith))
are_apart g a b (Data i) (BlockTree q) r is also = inr (first g a b r (Data i) (BlockTree q) is also (omega arith))
are_apart g a b (Data i) (CiphertextTree q) r is also = inr (first g a b r (Data i) (CiphertextTree q) is also (omega arith))
are_apart g a b (Data i) (Data j) r is also = data_apart g a b i j r

-- the byte of a piece is one of a block
in_block : (g : Geometry) (a b i offset : ℕ) → IsRange g a b → IsInPiece g a b i offset → (number : ℕ) × (a ≤ number) × (number < b) × IsInBlock g number offset
in_block g a b i offset r is =
    let h = header_size (layout_of g) in
    let size = block_size g in
    let begins = is.begins in
    let ends = is.ends in
    let first = data_from_first g r.valid a i in
    let from : a * size ≤ offset - h = omega (arith, first, begins) in
    let before : offset - h < b * size = omega (arith, begins, ends) in
    let inside : offset - h < share_data_size g = omega (arith, begins, ends) in
    let some : 0 < size = elim (cases_lt 0 size) [ inl found ↦ found | inr none ↦ let z : size ≡ 0 = omega arith in absurd (omega (arith, before, ap (λ n. b * n) z)) ] in
    let number = (offset - h) / size in
    let split = div-add-mod' (offset - h) size in
    let rest = mod_below (offset - h) size some in (
      number,
      le-div a (offset - h) size some from,
      div_below (offset - h) size b some before,
      record { begins = omega (arith, split); ends = omega (arith, split, rest, inside) },
    )

-- the byte of a block is one of a piece
in_piece : (g : Geometry) (a b offset number : ℕ) → IsRange g a b → a ≤ number → number < b → IsInBlock g number offset → (i : ℕ) × IsInPiece g a b i offset
in_piece g a b offset number r from before is =
    let h = header_size (layout_of g) in
    let size = block_size g in
    let begins = is.begins in
    let ends = is.ends in
    let low : a * size ≤ number * size = mul-le-mul_right size from in
    let high : number * size + size ≤ b * size = omega (arith, mul-le-mul_right {m = number + 1} {n = b} size (omega arith)) in
    let start : block_start g a ≤ offset = omega arith in
    let end : offset < data_end g b = omega arith in (
      piece_at g a offset,
      record {
        part = (let more = data_more g r.valid a offset (data_end g b - 1) (omega (arith, end)) in omega (arith, more));
        begins = data_from g r.valid a offset start;
        ends = omega (arith, data_from g r.valid a offset start, data_before g r.valid a offset, end);
      },
    )

pub hold_the_blocks : PartsHoldTheBlocks
hold_the_blocks g a b offset r = (λ i. in_block g a b i offset r, λ number. in_piece g a b offset number r)

pub hold_groups : LevelsHoldGroups
hold_groups g a b level number node r there from before is =
    holds_group (tree_height g) (row_of (tree_height g) level) a b (segment_count g) number node from before is.group is.some

-- the pieces of a tree are whole groups
pub are_groups : PiecesAreGroups
are_groups g a b p r is =
    let m = tree_height g in
    let row = row_of m p.level in
    let k = group_size row in
    let lie = piece_lies g a b p r is in
    let n = nodes_of g a b p in
    let begins = first_multiple m row a in
    let l = level_at g a b p.level in
    let at : ℕ = l.first / max_nodes + p.index in
    let groups : ℕ = 2 ^ (10 - min row 7) in
    let cut : cut_at l p.index ≡ at * groups * k = ap (λ size. size * at) (group_of row) ∙ omega arith in
    let next : cut_at l p.index + max_nodes ≡ (at + 1) * groups * k = omega (arith, cut, group_of row) in
    let some = first_below_end m row a b (segment_count g) r.some r.within in
    let begin : cut_at l p.index < l.end = piece_begins l.end max_nodes at (omega arith) (let index = is.index in omega arith) in
    record {
      begin = elim (cases_lt l.first (cut_at l p.index)) [
        | inl inner ↦ ap (λ size. size % k) (let e : n.from ≡ cut_at l p.index = omega (arith, inner) in e ∙ cut) ∙ mul-mod_left (at * groups) k
        | inr first ↦ ap (λ size. size % k) (let e : n.from ≡ l.first = omega (arith, first) in e ∙ begins.1) ∙ mul-mod_left begins.0 k
      ];
      end = elim (cases_lt l.end (cut_at l p.index + max_nodes)) [
        | inr full ↦ inl (ap (λ size. size % k) (let e : n.from + n.count ≡ cut_at l p.index + max_nodes = omega (arith, full, some, begin) in e ∙ next) ∙ mul-mod_left ((at + 1) * groups) k)
        | inl short ↦ let e : n.from + n.count ≡ l.end = omega (arith, short, some, begin) in
            elim (end_multiple m row b (segment_count g)) [
              | inl end ↦ inl (ap (λ size. size % k) (e ∙ end.1) ∙ mul-mod_left end.0 k)
              | inr last ↦ inr (e ∙ last)
            ]
      ];
    }

-- the piece with a group above a segment
module _ (g : Geometry) (a b level number : ℕ) (r : IsRange g a b) (from : a ≤ number) (before : number < b) where
  pub above_there : (index : ℕ) → index ≡ first_node (tree_height g) (row_of (tree_height g) level) number / max_nodes - (level_at g a b level).first / max_nodes
      → index < pieces_of (level_at g a b level)
  above_there index is =
      let l = level_at g a b level in
      let begins = group_begins (tree_height g) l.row a b (segment_count g) number from before r.within in
      let low = div_le l.first (first_node (tree_height g) l.row number) max_nodes (omega arith) begins.0 in
      omega (arith, is, low, below_ceil l.end max_nodes (first_node (tree_height g) l.row number) (omega arith) begins.1)

  pub above_holds : (index : ℕ) → index ≡ first_node (tree_height g) (row_of (tree_height g) level) number / max_nodes - (level_at g a b level).first / max_nodes
      → (node : ℕ) → IsAbove g (row_of (tree_height g) level) number node → IsAmong (nodes_at (level_at g a b level) index) node
  above_holds index is node above =
      let l = level_at g a b level in
      let begins = group_begins (tree_height g) l.row a b (segment_count g) number from before r.within in
      let low = div_le l.first (first_node (tree_height g) l.row number) max_nodes (omega arith) begins.0 in
      let inside = holds_group (tree_height g) l.row a b (segment_count g) number node from before above.group above.some in
      let within = group_within (tree_height g) l.row number node above.group in
      (omega (arith, is, low, within, inside), omega (arith, is, low, within, inside))

-- the piece that has the nodes above a piece
pub under_pieces : PiecesAreUnderPieces
under_pieces g a b p r some is =
    let m = tree_height g in
    let row = row_of m p.level in
    let over = row_of m (p.level - 1) in
    let l = level_at g a b p.level in
    let above = level_at g a b (p.level - 1) in
    let there = is.level in
    let rows : row ≡ over + 7 = omega (arith, some, there) in
    let high : row ≤ m = (row_high m p.level is.level).1 in
    let begins : cut_at l p.index < l.end = piece_begins l.end max_nodes (l.first / max_nodes + p.index) (omega arith) (let index = is.index in omega arith) in
    let wanted = first_below_end m row a b (segment_count g) r.some r.within in
    let among : (offset : ℕ) → IsAmong (nodes_of g a b p) offset → IsAmong (nodes_of g a b (piece_over g a p)) (offset / 128) =
    λ offset one.
    let read = reads_above m row over a b (segment_count g) offset rows high (omega (arith, one)) (omega (arith, one, begins, wanted)) in
    let first = reads_above m row over a b (segment_count g) l.first rows high (omega arith) wanted in
    let left = div_le (above.first) (l.first / 128) max_nodes (omega arith) first.0 in
    (omega (arith, one, begins, wanted, read, left), omega (arith, one, begins, wanted, read, left)) in
    let from : ℕ = (nodes_of g a b p).from in
    let lie = piece_lies g a b p r is in
    let one = among from (omega arith, omega (arith, lie.some)) in
    record {
      piece = record { level = omega (arith, there); index = (let low = below_ceil above.end max_nodes (from / 128) (omega arith) (omega (arith, one)) in omega (arith, one, low)) };
      holds = among;
    }

-- the block of a wanted segment
pub block_low : (g : Geometry) (number : ℕ) → IsGeometry g → number < segment_count g → block_start g number ≤ 2 ^ 40 + 68
block_low g number valid there =
    let begins = block_begins g number (number + 1) (record { valid = valid; some = omega arith; within = omega (arith, there) }) in
    omega (arith, begins, header_short (layout_of g), share_low g valid)

-- its pieces are some of the data's
module _ (g : Geometry) (a b number : ℕ) (r : IsRange g a b) (from : a ≤ number) (before : number < b) (some : 0 < block_length g number) where
  pub block_after : block_start g a ≤ block_start g number
  block_after = omega (arith, mul-le-mul_right {m = a} {n = number} (block_size g) from)

  pub block_within : piece_at g a (block_start g number + block_length g number - 1) < data_pieces g a b
  block_within =
      let high = mul-le-mul_right {m = number + 1} {n = b} (block_size g) (omega (arith, before)) in
      let inside : block_start g number + block_length g number - 1 ≤ data_end g b - 1 = omega (arith, high, some) in
      omega (arith, data_more g r.valid a (block_start g number + block_length g number - 1) (data_end g b - 1) inside)

  pub block_begins_first : piece_at g a (block_start g number) ≤ piece_at g a (block_start g number + block_length g number - 1)
  block_begins_first = data_more g r.valid a (block_start g number) (block_start g number + block_length g number - 1) (omega (arith, some))

-- numbers that are one by what they stand for
pub same_node : (g : Geometry) (level number h r node : ℕ) → h ≡ tree_height g → r ≡ row_of (tree_height g) level → node ≡ first_node h r number
    → node ≡ first_node (tree_height g) (row_of (tree_height g) level) number
same_node g level number h r node height row is = is ∙ (λ i. first_node (height i) (row i) number)

-- each level has a piece
pub some_piece : (g : Geometry) (a b level : ℕ) → IsRange g a b → level < level_count (tree_height g) → IsNodePiece g a b (record { level = level; index = 0 })
some_piece g a b level r there =
    let l = level_at g a b level in
    let some = first_below_end (tree_height g) l.row a b (segment_count g) r.some r.within in
    record { level = there; index = omega (arith, below_ceil l.end max_nodes l.first (omega arith) some) }
