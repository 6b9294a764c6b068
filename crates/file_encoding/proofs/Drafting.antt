-- How long the parts of a draft are.
use Rattle.std.proofs.Common.{◌≡◌, ℕ, zero, suc, ◌+◌, ◌-◌, ◌*◌, ◌/◌, ◌^◌, ◌<◌, ◌≤◌, List, [], ◌∷◌, ◌++◌, length, map, take, drop, min, refl, inl, inr, ap, sym, subst, ◌∙◌, arith}
use Rattle.std.proofs.Math.Nat.{mul-div_cancel, mul-le-mul_right}
use Rattle.std.proofs.lemmas.Bool.{cases_lt}
use Rattle.std.proofs.lemmas.Grind.{div_ceil_times}
use Rattle.std.proofs.Math.ListN.{drop_of_length-le}
use Rattle.std.proofs.lemmas.List.{append-nil, drop_at, length-append, length-drop, length-map, length-take, nil_from_length, take_all, take_at}
use Rattle.std.proofs.lemmas.List.FromFn.{length-map-range_with_len}
use Rattle.std.proofs.lemmas.Nat.{div-add-mod'}
use Rattle.lemmas.proofs.Numbers.{next_power}
use Rattle.tagged_hash.specs.TaggedHash.{tagged_hash}
use Rattle.tagged_hash.specs.declared.tag.Tag.TheVariants.{Block}
use Rattle.merkle.specs.Tree.{height, needed_numbers, tree_nodes}
use Rattle.merkle.proofs.NumberLemmas.{length-needed_numbers}
use Rattle.merkle.proofs.TreeLemmas.{length-tree_nodes}
use Rattle.ueb.specs.Shape.{rounded_up}
use Rattle.share_layout.specs.Geometry.{Geometry, IsGeometry, block_size, hashes_size, segment_count, share_data_size, tree_size}
use Rattle.share_layout.specs.Pieces.{pieces}
use Rattle.share_verify.specs.Pieces.{block_hashes, joined}
use Rattle.proved_parts.proofs.Files.{length-pieces}
use Rattle.file_encoding.specs.Blocks.{padded_block, padded_blocks}
use Rattle.file_encoding.proofs.OwnBlocks.{div_ceil_within}

-- the nodes of a tree with a leaf for each segment fill a section
pub nodes_size : (g : Geometry) (leaves : List (List ℕ)) → length leaves ≡ segment_count g → length (tree_nodes leaves) * 32 ≡ tree_size g
nodes_size g leaves count =
    let all = length-tree_nodes leaves in
    let twice = next_power (height (length leaves)) in
    let some : length (tree_nodes leaves) ≡ 2 * 2 ^ height (length leaves) - 1 = omega (arith, all, twice) in
    ap (λ n. n * 32) some ∙ ap (λ n. (2 * 2 ^ height n - 1) * 32) count

-- a cut after b times k of m times k
cut_front : (k b m : ℕ) → min (b * k) (m * k) ≡ min b m * k
cut_front k b m =
    elim (cases_lt b m) [
      | inl below ↦ let least : min b m ≡ b = omega arith in let low = mul-le-mul_right {m = b} {n = m} k (omega arith) in omega (arith, low) ∙ ap (λ x. x * k) (sym least)
      | inr above ↦ let least : min b m ≡ m = omega arith in let low = mul-le-mul_right {m = m} {n = b} k above in omega (arith, low) ∙ ap (λ x. x * k) (sym least)
    ]

cut_rest : (k b m : ℕ) → m * k - b * k ≡ (m - b) * k
cut_rest k b m =
    elim (cases_lt b m) [
      | inl below ↦ let sum : m ≡ b + (m - b) = omega arith in let all : m * k ≡ b * k + (m - b) * k = ap (λ x. x * k) sum ∙ omega arith in omega (arith, all)
      | inr above ↦ let low = mul-le-mul_right {m = m} {n = b} k above in let none : m - b ≡ 0 = omega arith in let nothing : 0 * k ≡ 0 = omega arith in omega (arith, low) ∙ sym nothing ∙ ap (λ x. x * k) (sym none)
    ]

-- the blocks of a text of m times k bytes have m bytes together
module _ (k i b : ℕ) (some : 0 < k) where
  length-blocks : (n m : ℕ) (text : List ℕ) → length text ≡ m * k → m ≤ n * b
      → length (joined (map (padded_block k i) (pieces n (b * k) text))) ≡ m
  length-blocks zero m text is low = omega (arith, low)
  length-blocks (suc n) m text is low =
      let front : List ℕ = take (b * k) text in
      let rest : List ℕ = drop (b * k) text in
      let long : length front ≡ min b m * k = length-take (b * k) text ∙ ap (min (b * k)) is ∙ cut_front k b m in
      let left : length rest ≡ (m - b) * k = length-drop (b * k) text ∙ ap (λ l. l - b * k) is ∙ cut_rest k b m in
      let block : length (padded_block k i front) ≡ min b m =
      length-map-range_with_len _ 0 (length front / k) ∙ ap (λ l. l / k) long ∙ mul-div_cancel (min b m) some in
      let others = length-blocks n (m - b) rest left (omega (arith, low)) in
      length-append (padded_block k i front) (joined (map (padded_block k i) (pieces n (b * k) rest))) ∙ omega (arith, block, others)

  -- a block that stands before others, cut off
  cut_off : (block rest : List ℕ) (m : ℕ) → length block ≡ min b m → length rest ≡ m - b
      → (take b (block ++ rest) ≡ block) × (drop b (block ++ rest) ≡ rest)
  cut_off block rest m long left =
      elim (cases_lt m b) [
        | inl short ↦
            let none : rest ≡ [] = nil_from_length rest (omega arith) in
            let alone : block ++ rest ≡ block = ap (λ (r : List ℕ). block ++ r) none ∙ append-nil block in
            let low : length block ≤ b = omega arith in
            (ap (take b) alone ∙ take_all b block low, ap (drop b) alone ∙ drop_of_length-le block low ∙ sym none)
        | inr whole ↦
            let size : length block ≡ b = omega arith in
            (take_at block rest b size, drop_at block rest b size)
      ]

  -- the blocks of a text, joined and cut again
  blocks-again : (n m : ℕ) (text : List ℕ) → length text ≡ m * k → m ≤ n * b
      → pieces n b (joined (map (padded_block k i) (pieces n (b * k) text))) ≡ map (padded_block k i) (pieces n (b * k) text)
  blocks-again zero m text is low = refl
  blocks-again (suc n) m text is low =
      let front : List ℕ = take (b * k) text in
      let rest : List ℕ = drop (b * k) text in
      let long : length front ≡ min b m * k = length-take (b * k) text ∙ ap (min (b * k)) is ∙ cut_front k b m in
      let left : length rest ≡ (m - b) * k = length-drop (b * k) text ∙ ap (λ l. l - b * k) is ∙ cut_rest k b m in
      let block : length (padded_block k i front) ≡ min b m =
      length-map-range_with_len _ 0 (length front / k) ∙ ap (λ l. l / k) long ∙ mul-div_cancel (min b m) some in
      let others = length-blocks n (m - b) rest left (omega (arith, low)) in
      let cut = cut_off (padded_block k i front) (joined (map (padded_block k i) (pieces n (b * k) rest))) m block others in
      (λ j. cut.0 j ∷ pieces n b (cut.1 j))
      ∙ ap (λ (l : List (List ℕ)). padded_block k i front ∷ l) (blocks-again n (m - b) rest left (omega (arith, low)))

-- the blocks of a padded text, cut again from the section of a share
pub padded_blocks-again : (g : Geometry) (i : ℕ) (text : List ℕ) → IsGeometry g → length text ≡ rounded_up g.size g.needed
    → pieces (segment_count g) (block_size g) (joined (padded_blocks g i text)) ≡ padded_blocks g i text
padded_blocks-again g i text valid padded =
    let k : ℕ = g.needed in
    let b : ℕ = g.segment_size / k in
    let n : ℕ = segment_count g in
    let cut : g.segment_size ≡ b * k = omega (arith, div-add-mod' g.segment_size k, valid.multiple) in
    let ceil = div_ceil_times g.size g.segment_size valid.some_segment in
    let below : g.size ≤ n * (b * k) = subst (λ s. g.size ≤ n * s) cut ceil.0 in
    let within : share_data_size g ≤ n * b = div_ceil_within (n * b) k i valid.some_needed g.size (omega (arith, below)) in
    ap (λ s. pieces n b (joined (map (padded_block k i) (pieces n s text)))) cut
    ∙ blocks-again k i b valid.some_needed n (share_data_size g) text padded within
    ∙ ap (λ s. map (padded_block k i) (pieces n s text)) (sym cut)

-- the blocks of a padded text fill the section of a share
pub length-padded_blocks : (g : Geometry) (i : ℕ) (text : List ℕ) → IsGeometry g → length text ≡ rounded_up g.size g.needed
    → length (joined (padded_blocks g i text)) ≡ share_data_size g
length-padded_blocks g i text valid padded =
    let k : ℕ = g.needed in
    let b : ℕ = g.segment_size / k in
    let n : ℕ = segment_count g in
    let cut : g.segment_size ≡ b * k = omega (arith, div-add-mod' g.segment_size k, valid.multiple) in
    let ceil = div_ceil_times g.size g.segment_size valid.some_segment in
    let below : g.size ≤ n * (b * k) = subst (λ s. g.size ≤ n * s) cut ceil.0 in
    let within : share_data_size g ≤ n * b = div_ceil_within (n * b) k i valid.some_needed g.size (omega (arith, below)) in
    ap (λ s. length (joined (map (padded_block k i) (pieces n s text)))) cut
    ∙ length-blocks k i b valid.some_needed n (share_data_size g) text padded within

-- the nodes that lead from a leaf to the root fill the section of the share hashes
pub hashes_fill : (g : Geometry) (leaves : List (List ℕ)) (numbers : List ℕ) (i : ℕ) → g.total ≡ length leaves
    → numbers ≡ needed_numbers (height (length leaves)) i → length numbers * 34 ≡ hashes_size g
hashes_fill g leaves numbers i total are =
    ap (λ (ns : List ℕ). length ns * 34) are
    ∙ ap (λ (n : ℕ). n * 34) (length-needed_numbers (height (length leaves)) i)
    ∙ ap (λ (n : ℕ). (height n + 1) * 34) (sym total)

-- there is a hash for each segment
pub length-block_hashes : (g : Geometry) (i : ℕ) (text : List ℕ) → length (block_hashes (padded_blocks g i text)) ≡ segment_count g
length-block_hashes g i text =
    length-map (padded_blocks g i text) (tagged_hash Block)
    ∙ length-map (pieces (segment_count g) g.segment_size text) (padded_block g.needed i)
    ∙ length-pieces (segment_count g) g.segment_size text
