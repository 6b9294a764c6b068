-- Laws of supplies.
use Rattle.std.proofs.Common.{◌≡◌, ℕ, suc, ◌+◌, ◌-◌, ◌*◌, ◌/◌, ◌^◌, ◌<◌, ◌≤◌, min, List, [], ◌∷◌, length, drop, get_or, Option, Some, None, IfSome, is_some, true, inl, inr, ap, refl, subst, sym, ◌∙◌, arith}
use Rattle.std.specs.List.{concat}
use Rattle.std.specs.Prelude.{Contains}
use Rattle.std.proofs.Math.Nat.{mul-le-mul_right}
use Rattle.std.proofs.lemmas.Bool.{cases_lt, false≢true}
use Rattle.std.proofs.lemmas.List.{length-append, length-drop, length-take-le}
use Rattle.lemmas.proofs.Members.{contains_head, contains_tail}
use Rattle.merkle.specs.Partial.{PartialState, known_at}
use Rattle.merkle.specs.Tree.{height, node_number}
use Rattle.merkle.proofs.HeightLemmas.{height_room}
use Rattle.share_layout.specs.Geometry.{Geometry, IsGeometry, block_size, segment_count}
use Rattle.share_layout.specs.Layout.{offsets_of}
use Rattle.share_layout.specs.Pieces.{block_length}
use Rattle.download_parts.specs.PlanLaws.{AreApart, LiesIn, section_end, section_start}
use Rattle.download_parts.specs.Level.{IsAbove, first_node, level_at, level_count, row_of, tree_height}
use Rattle.download_parts.specs.Plan.{IsAmong, IsNodePiece, IsPart, block_start, data_end, data_offset, length_of, max_nodes, nodes_of, offset_of}
use Rattle.download_parts.specs.Range.{IsRange}
use Rattle.download_parts.specs.declared.part.NodePiece.{NodePiece}
use Rattle.download_parts.specs.declared.part.Part.{Part}
use Rattle.download_parts.specs.declared.part.Part.TheVariants.{ShareHashes, BlockTree, CiphertextTree, Data}
use Rattle.download_parts.proofs.PartLemmas.{above_holds, above_there, are_apart, block_within, data_before, data_begins, data_more, data_rest, data_rise, data_rises, lie_inside}
use Rattle.download_parts.specs.Trees.{IsBlockTree}
use Rattle.download_supply.specs.Asking.{IsAsked}
use Rattle.download_supply.specs.Blocks.{block_end, block_first, block_offset}
use Rattle.download_supply.specs.Laws.{FirstIsDue, JoinedHasLength, KnowsPiece, LeadOnGiving, LeadOnTogether, LeavesAreKnown, LongerPlansHoldMore, SupplyPartsAreApart, TakenIsReady, TakenNodesAreKnown}
use Rattle.download_supply.specs.Supply.{IsSupply, SupplyState}
use Rattle.download_supply.specs.Taking.{known_hash}
use Rattle.download_supply.proofs.CursorLemmas.{lead_adds, lead_fresh}
use Rattle.download_supply.proofs.PlanLemmas.{end_grows, part_grows}
use Rattle.download_supply.specs.Cursors.{LeadOn, cursor_at, passed}
use Rattle.download_supply.specs.declared.cursors.Cursors.{Cursors}
use Rattle.download_supply.proofs.TakingLemmas.{offered_known}

pub first_due : FirstIsDue
first_due s part parts leads = record {
  next = leads.0;
  asked = lead_adds s.taken (part ∷ parts) s.asked part leads (contains_head part parts);
}

pub taken_known : TakenNodesAreKnown
taken_known = offered_known

-- ---- parts of two plans

-- what lies in an earlier section is before what lies in a later one
earlier : (s e position len s' e' position' len' : ℕ) → LiesIn s e position len → LiesIn s' e' position' len' → e ≤ s' → position + len ≤ position'
earlier s e position len s' e' position' len' one other order = let f = one.ends in let t = other.begins in omega arith

whole_range : (s : SupplyState) → IsSupply s → IsRange s.geometry s.start s.end
whole_range s is =
    let begins = is.begins in
    let some = is.range.some in
    record { valid = is.range.valid; some = omega (arith, begins, some); within = is.range.within }

module _ (g : Geometry) (a b c : ℕ) (r : IsRange g a b) (w : IsRange g c b) (p : NodePiece) (is : IsPart g c b (CiphertextTree p)) where
  before : (q : Part) → IsPart g a b q → section_end (offsets_of g) (CiphertextTree p) ≤ section_start (offsets_of g) q
      → AreApart (offset_of g c b (CiphertextTree p)) (length_of g c b (CiphertextTree p)) (offset_of g a b q) (length_of g a b q)
  before q also order = inl (earlier _ _ _ _ _ _ _ _ (lie_inside g c b (CiphertextTree p) w is) (lie_inside g a b q r also) order)

  behind : (q : Part) → IsPart g a b q → section_end (offsets_of g) q ≤ section_start (offsets_of g) (CiphertextTree p)
      → AreApart (offset_of g c b (CiphertextTree p)) (length_of g c b (CiphertextTree p)) (offset_of g a b q) (length_of g a b q)
  behind q also order = inr (earlier _ _ _ _ _ _ _ _ (lie_inside g a b q r also) (lie_inside g c b (CiphertextTree p) w is) order)

turned : (p l q m : ℕ) → AreApart p l q m → AreApart q m p l
turned p l q m (inl first) = inr first
turned p l q m (inr second) = inl second

pub parts_apart : SupplyPartsAreApart
parts_apart s (CiphertextTree p) (CiphertextTree q) is one two = are_apart s.geometry s.start s.end (CiphertextTree p) (CiphertextTree q) (whole_range s is) one two
parts_apart s (CiphertextTree p) ShareHashes is one two = inr (before s.geometry s.first s.end s.start is.range (whole_range s is) p one ShareHashes two (omega arith))
parts_apart s (CiphertextTree p) (BlockTree q) is one two = inr (before s.geometry s.first s.end s.start is.range (whole_range s is) p one (BlockTree q) two (omega arith))
parts_apart s (CiphertextTree p) (Data j) is one two = inr (behind s.geometry s.first s.end s.start is.range (whole_range s is) p one (Data j) two (omega arith))
parts_apart s ShareHashes (CiphertextTree q) is one two = inr (turned _ _ _ _ (before s.geometry s.first s.end s.start is.range (whole_range s is) q two ShareHashes one (omega arith)))
parts_apart s (BlockTree p) (CiphertextTree q) is one two = inr (turned _ _ _ _ (before s.geometry s.first s.end s.start is.range (whole_range s is) q two (BlockTree p) one (omega arith)))
parts_apart s (Data i) (CiphertextTree q) is one two = inr (turned _ _ _ _ (behind s.geometry s.first s.end s.start is.range (whole_range s is) q two (Data i) one (omega arith)))
parts_apart s ShareHashes ShareHashes is one two = inl refl
parts_apart s ShareHashes (BlockTree q) is one two = are_apart s.geometry s.first s.end ShareHashes (BlockTree q) is.range one two
parts_apart s ShareHashes (Data j) is one two = are_apart s.geometry s.first s.end ShareHashes (Data j) is.range one two
parts_apart s (BlockTree p) ShareHashes is one two = are_apart s.geometry s.first s.end (BlockTree p) ShareHashes is.range one two
parts_apart s (BlockTree p) (BlockTree q) is one two = are_apart s.geometry s.first s.end (BlockTree p) (BlockTree q) is.range one two
parts_apart s (BlockTree p) (Data j) is one two = are_apart s.geometry s.first s.end (BlockTree p) (Data j) is.range one two
parts_apart s (Data i) ShareHashes is one two = are_apart s.geometry s.first s.end (Data i) ShareHashes is.range one two
parts_apart s (Data i) (BlockTree q) is one two = are_apart s.geometry s.first s.end (Data i) (BlockTree q) is.range one two
parts_apart s (Data i) (Data j) is one two = are_apart s.geometry s.first s.end (Data i) (Data j) is.range one two

-- ---- leaves

-- a leaf is above itself
above_itself : (g : Geometry) (row segment : ℕ) → row ≡ tree_height g → segment < segment_count g → IsAbove g row segment segment
above_itself g row segment is inside =
    let one : 2 ^ (tree_height g - row) ≡ 1 = let none : tree_height g - row ≡ 0 = omega arith in ap (λ n. 2 ^ n) none in
    record {
      group = let same : segment ≡ segment / 2 ^ (tree_height g - row) = let e : segment ≡ segment / 1 = omega arith in e ∙ ap (λ n. segment / n) (sym one) in
          ap (λ n. n / 2 ^ min row 7) same;
      some = let same : segment * 2 ^ (tree_height g - row) ≡ segment = ap (λ n. segment * n) one ∙ omega arith in omega (arith, same, inside);
    }

pub leaf_known : LeavesAreKnown
leaf_known g a b segment tree r from before leads pieces =
    let m = tree_height g in
    let within = r.within in
    let inside : segment < segment_count g = omega (arith, before, within) in
    let high : height tree.leaf_count ≡ m = ap height leads.leaves in
    elim (cases_lt 0 (level_count m)) [
      | inl some ↦
          let level = level_count m - 1 in
          let there : level < level_count m = omega (arith, some) in
          let row : row_of m level ≡ m = omega (arith, some) in
          let index = first_node m (row_of m level) segment / max_nodes - (level_at g a b level).first / max_nodes in
          let p : NodePiece = record { level = level; index = index } in
          let short : IsRange g a (segment + 1) = record { valid = r.valid; some = omega (arith, from); within = omega (arith, inside) } in
          let is : IsNodePiece g a (segment + 1) p = record { level = there; index = above_there g a (segment + 1) level segment short from (omega arith) index refl } in
          let among : IsAmong (nodes_of g a b p) segment = above_holds g a b level segment r from before index refl segment (above_itself g (row_of m level) segment row inside) in
          ap (λ h. is_some (known_at tree (node_number h segment))) (high ∙ sym row) ∙ pieces p is segment among
      | inr none ↦
          let flat : m ≡ 0 = omega (arith, none) in
          let room : segment_count g ≤ 2 ^ m = height_room (segment_count g) in
          let one : 2 ^ m ≡ 1 = ap (λ n. 2 ^ n) flat in
          let first : segment ≡ 0 = omega (arith, inside, room, one) in
          (λ i. is_some (known_at tree (node_number ((high ∙ flat) i) (first i)))) ∙ ap (is_some {T = List ℕ}) leads.sound.root
    ]

-- ---- what is taken is ready

tree_of : (o : Option PartialState) → is_some o ≡ true → (tree : PartialState) × (o ≡ Some tree)
tree_of (Some tree) is = (tree, refl)
tree_of None is = absurd (false≢true is)

-- the block of a segment is no empty one
block_some : (g : Geometry) (a b segment : ℕ) → IsRange g a b → segment < b → 0 < block_length g segment
block_some g a b segment r before =
    let within = r.within in
    let begins = data_begins g segment (segment + 1) (record { valid = r.valid; some = omega arith; within = omega (arith, before, within) }) in
    omega (arith, begins)

pub all_ready : TakenIsReady
all_ready s segment is within taken =
    let g = s.geometry in
    let from = within.from in
    let before = within.before in
    let whole = is.range.within in
    let short : IsRange g s.first (segment + 1) = record { valid = is.range.valid; some = omega (arith, from); within = omega (arith, before, whole) } in
    let last = block_within g s.first (segment + 1) segment short from (omega arith) (block_some g s.first s.end segment is.range before) in
    let passes = taken (Data (block_end g s.first segment - 1)) (within, omega (arith, last)) in
    let held = is.held in
    let tree = tree_of s.tree (is.tree ∙ taken ShareHashes (within, tt)) in
    let leads = (subst (λ (o : Option PartialState). IfSome o (λ t. IsBlockTree t (segment_count g))) tree.1 is.leads).leads in
    let knows : (p : NodePiece) → IsNodePiece g s.first (segment + 1) p → KnowsPiece g s.first s.end tree.0 p =
    λ p piece.
    let known = is.knows p (taken (BlockTree p) (within, piece)) in
    let same : known.tree ≡ tree.0 = let e : Some known.tree ≡ Some tree.0 = sym known.is ∙ tree.1 in cc in
    subst (λ (t : PartialState). KnowsPiece g s.first s.end t p) same known.known in
    record {
      held = record { within = within; pieces = omega (arith, passes, held) };
      known = subst (λ (o : Option PartialState). is_some (known_hash (record s { tree = o }) segment) ≡ true) (sym tree.1)
          (leaf_known g s.first s.end segment tree.0 is.range from before leads knows);
    }

-- ---- blocks

-- the length of pieces, one after another: each ends where the next begins, or with the whole
pieces_long : (g : Geometry) (a whole first : ℕ) (pieces : List (List ℕ)) → IsGeometry g
    → ((k : ℕ) → k < length pieces → length (get_or pieces k []) ≡ min (data_offset g a (first + k + 1)) whole - data_offset g a (first + k))
    → length (concat pieces) ≡ min (data_offset g a (first + length pieces)) whole - data_offset g a first
pieces_long g a whole first [] valid each = let e : first + 0 ≡ first = omega arith in omega (arith, ap (data_offset g a) e)
pieces_long g a whole first (piece ∷ pieces) valid each =
    let start : first + 0 ≡ first = omega arith in
    let own = each 0 (omega arith) ∙ ap (λ n. min (data_offset g a (n + 1)) whole - data_offset g a n) start in
    let shift : (k : ℕ) → first + suc k ≡ first + 1 + k = λ k. omega arith in
    let rest = pieces_long g a whole (first + 1) pieces valid
    (λ k low. each (suc k) (omega (arith, low)) ∙ ap (λ n. min (data_offset g a (n + 1)) whole - data_offset g a n) (shift k)) in
    let end = ap (data_offset g a) (shift (length pieces)) in
    let after = data_rise g valid a (first + 1) (first + 1 + length pieces) (omega arith) in
    omega (arith, own, rest, end, after, data_rises g valid a first, length-append piece (concat pieces))

pub joined_long : JoinedHasLength
joined_long g a b segment pieces r from before count each =
    let len = block_length g segment in
    let some = block_some g a b segment r before in
    let valid = r.valid in
    let position = block_start g segment in
    let first = block_first g a segment in
    let end = block_end g a segment in
    let low = mul-le-mul_right {m = a} {n = segment} (block_size g) from in
    let high = mul-le-mul_right {m = segment + 1} {n = b} (block_size g) (omega (arith, before)) in
    let whole = data_end g b in
    let order : first ≤ end = omega (arith, data_more g valid a position (position + len - 1) (omega (arith, some))) in
    let last : first + length pieces ≡ end = omega (arith, count, order) in
    let long = pieces_long g a whole first pieces valid each in
    let stop = ap (data_offset g a) last in
    let begins = data_rest g valid a position (omega (arith, low)) in
    let ends : position + len ≤ whole = omega (arith, high, some) in
    let more : position + len ≤ data_offset g a end = omega (arith, data_before g valid a (position + len - 1), some) in
    length-take-le len (drop (block_offset g a segment) (concat pieces))
    (omega (arith, length-drop (block_offset g a segment) (concat pieces), long, stop, begins, ends, more))

-- ---- parts that wait

pub lead_append : LeadOnTogether
lead_append from between to [] parts one two = subst (λ (c : Cursors). LeadOn c parts to) (sym one) two
lead_append from between to (p ∷ ps) parts one two = (one.0, lead_append (passed from p) between to ps parts one.1 two)

lead_put : (from to : Cursors) (levels : List ℕ) (parts : List Part) → ((p : NodePiece) → ¬ Contains parts (CiphertextTree p))
    → LeadOn from parts to → LeadOn (record from { ciphertext_tree = levels }) parts (record to { ciphertext_tree = levels })
lead_put from to levels [] none leads = ap (λ (c : Cursors). record c { ciphertext_tree = levels }) leads
lead_put from to levels (ShareHashes ∷ ps) none leads =
    (leads.0, lead_put (passed from ShareHashes) to levels ps (λ p has. none p (contains_tail ShareHashes (CiphertextTree p) ps has)) leads.1)
lead_put from to levels (BlockTree q ∷ ps) none leads =
    (leads.0, lead_put (passed from (BlockTree q)) to levels ps (λ p has. none p (contains_tail (BlockTree q) (CiphertextTree p) ps has)) leads.1)
lead_put from to levels (CiphertextTree q ∷ ps) none leads = absurd (none q (contains_head (CiphertextTree q) ps))
lead_put from to levels (Data i ∷ ps) none leads =
    (leads.0, lead_put (passed from (Data i)) to levels ps (λ p has. none p (contains_tail (Data i) (CiphertextTree p) ps has)) leads.1)

-- where no piece of the ciphertext tree was asked, none waits
pub none_waits : (s : SupplyState) (waiting : List Part) → IsSupply s → ((p : NodePiece) → ¬ IsAsked s (CiphertextTree p)) → LeadOn s.taken waiting s.asked
    → (p : NodePiece) → ¬ Contains waiting (CiphertextTree p)
none_waits s waiting is none leads p has =
    let not = lead_fresh s.taken waiting s.asked (CiphertextTree p) leads has in
    let given = is.given p.level in
    none p (
      elim (cases_lt p.index (cursor_at s.given p.level)) [
        | inl low ↦ absurd (not (omega (arith, low, given)))
        | inr high ↦ high
      ],
      lead_adds s.taken waiting s.asked (CiphertextTree p) leads has,
    )

pub lead_giving : LeadOnGiving
lead_giving s levels waiting is none leads = lead_put s.taken s.asked levels waiting (none_waits s waiting is none leads) leads

-- ---- longer plans

nodes_more : (g : Geometry) (a b c : ℕ) (p : NodePiece) → b ≤ c → (nodes_of g a b p).count ≤ (nodes_of g a c p).count
nodes_more g a b c p le =
    let end : (level_at g a b p.level).end ≤ (level_at g a c p.level).end = end_grows (tree_height g) (row_of (tree_height g) p.level) b c (segment_count g) le in
    omega (arith, end)

pub plans_grow : LongerPlansHoldMore
plans_grow g a b c ShareHashes le is = (tt, refl, omega arith)
plans_grow g a b c (BlockTree p) le is = (part_grows g a b c (BlockTree p) le is, refl, omega (arith, nodes_more g a b c p le))
plans_grow g a b c (CiphertextTree p) le is = (part_grows g a b c (CiphertextTree p) le is, refl, omega (arith, nodes_more g a b c p le))
plans_grow g a b c (Data i) le is =
    let more = mul-le-mul_right {m = b} {n = c} (block_size g) le in
    (part_grows g a b c (Data i) le is, refl, omega (arith, more))
