-- A padded ciphertext: its geometry, its segments and the shares that are made of it.
use Rattle.std.proofs.Common.{◌≡◌, ℕ, zero, suc, ◌+◌, ◌-◌, ◌*◌, ◌/◌, ◌%◌, ◌^◌, ◌<◌, ◌≤◌, List, [], ◌∷◌, ◌++◌, length, take, drop, map, replicate, inl, inr, refl, ap, sym, ◌∙◌, arith}
use Rattle.std.specs.Prelude.{nat_lt, if◌then◌else◌}
use Rattle.std.specs.Int.{w32, div_ceil, to_be_bytes}
use Rattle.std.specs.List.{flat_map, list_all}
use Rattle.std.proofs.Math.Nat.{add-mul, div-mul_cancel, dvd_of_mod-eq-zero, mul-div_cancel, mul-le-mul_right, mul-mod_left}
use Rattle.std.proofs.lemmas.Bool.{cases_lt}
use Rattle.std.proofs.lemmas.List.{append-nil, length-drop, length-take}
use Rattle.std.proofs.lemmas.List.FromFn.{fill_by_all}
use Rattle.merkle.specs.Tree.{height, tree_nodes}
use Rattle.zfec_code.specs.ShareValue.{share_block}
use Rattle.ueb.specs.Shape.{rounded_up}
use Rattle.share_layout.specs.Geometry.{Geometry, IsGeometry, block_size, hashes_size, segment_count, share_data_size, tree_size, with_padding}
use Rattle.share_layout.specs.Layout.{header, header_size, layout_of, spelled, version}
use Rattle.share_layout.specs.Pieces.{pieces, segment_at, segment_length, segments_of}
use Rattle.share_layout.specs.declared.layout.Layout.{Layout}
use Rattle.share_layout.specs.declared.layout.Layout.TheVariants.{One, Two}
use Rattle.share_layout.proofs.CutLemmas.{piece_at}
use Rattle.share_layout.proofs.GeometryLemmas.{padding_count, rounded_up_multiple}
use Rattle.share_verify.specs.Pieces.{block_hashes, joined}
use Rattle.proved_parts.specs.FileOf.{segment_hashes}
use Rattle.proved_parts.proofs.Files.{length-pieces}
use Rattle.file_encoding.specs.Blocks.{padded_block, padded_blocks}
use Rattle.file_encoding.specs.Encoding.{block_of, blocks_of, padded_segment, share_hashes}
use Rattle.file_encoding.specs.Padded.{padded_leaves, padded_share, plain_segments}
use Rattle.file_encoding.proofs.PlainText.{plain_segment}
use Rattle.block_making.proofs.MadeBlocks.{begins-before}
use Rattle.share_gathering.specs.Gathered.{behind_blocks}
use Rattle.share_gathering.proofs.OneByOne.{behind}

-- ---- the numbers of a header, by the lengths that they follow from

abbrev numbers_with : Layout → ℕ → ℕ → ℕ → ℕ → List ℕ
numbers_with l block all tree hashes =
    block ∷ all ∷ header_size l ∷ (header_size l + all) ∷ (header_size l + all + tree) ∷ (header_size l + all + 2 * tree)
    ∷ (header_size l + all + 3 * tree) ∷ (header_size l + all + 3 * tree + hashes) ∷ []

abbrev layout_with : ℕ → ℕ → ℕ → ℕ → Layout
layout_with block all tree hashes =
    if list_all (λ number. nat_lt number (2 ^ 32)) (numbers_with One block all tree hashes) then One else Two

abbrev header_with : ℕ → ℕ → ℕ → ℕ → List ℕ
header_with block all tree hashes =
    to_be_bytes w32 (version (layout_with block all tree hashes))
    ++ flat_map (spelled (layout_with block all tree hashes)) (numbers_with (layout_with block all tree hashes) block all tree hashes)

-- ---- the geometry of a padded text

module _ (g : Geometry) (valid : IsGeometry g) where
  cut : block_size g * g.needed ≡ g.segment_size
  cut = div-mul_cancel g.needed (dvd_of_mod-eq-zero g.needed valid.multiple)

  pub data_same : share_data_size (with_padding g) ≡ share_data_size g
  data_same =
      let d : ℕ = share_data_size g in
      sym (mul-div_cancel (div_ceil (d * g.needed) g.needed) valid.some_needed)
      ∙ ap (λ n. n / g.needed) (rounded_up_multiple (d * g.needed) g.needed (mul-mod_left d g.needed)) ∙ mul-div_cancel d valid.some_needed

  pub tree_same : tree_size (with_padding g) ≡ tree_size g
  tree_same = λ i. (2 * 2 ^ height (padding_count g valid i) - 1) * 32

  pub header_same : header (with_padding g) ≡ header g
  header_same = λ i. header_with (block_size g) (data_same i) (tree_same i) (hashes_size g)

  pub layout_same : layout_of (with_padding g) ≡ layout_of g
  layout_same = λ i. layout_with (block_size g) (data_same i) (tree_same i) (hashes_size g)

  -- ---- its segments

  -- without the padding they are those of the text, cut to the file's size
  pub plain_same : (text : List ℕ) → pieces (segment_count g) g.segment_size (take g.size text) ≡ plain_segments g text
  plain_same text =
      let n : ℕ = segment_count g in
      fill_by_all (λ number. take (segment_length g number) (segment_at g number text)) (pieces n g.segment_size (take g.size text)) n [] (length-pieces n g.segment_size (take g.size text))
      (λ number there.
      let begins : number * g.segment_size ≤ g.size = (let low = begins-before g number valid there in omega (arith, low)) in
      piece_at n g.segment_size number (take g.size text) there ∙ plain_segment g number text begins)

-- a segment of so many whole columns needs no padding
block_same : (k i c : ℕ) (segment : List ℕ) → 0 < k → length segment ≡ c * k → block_of k i segment ≡ padded_block k i segment
block_same k i c segment some long =
    let multiple : length segment % k ≡ 0 = ap (λ n. n % k) long ∙ mul-mod_left c k in
    let none : rounded_up (length segment) k - length segment ≡ 0 = omega (arith, rounded_up_multiple (length segment) k multiple) in
    let same : padded_segment k segment ≡ segment = (λ p. segment ++ replicate (none p) 0) ∙ append-nil segment in
    λ p. share_block k i (length (same p) / k) (same p)

-- so the blocks of a text of whole columns are those of its segments
blocks_below : (k i b n m : ℕ) (text : List ℕ) → 0 < k → length text ≡ m * k → map (block_of k i) (pieces n (b * k) text) ≡ map (padded_block k i) (pieces n (b * k) text)
blocks_below k i b zero m text some long = refl
blocks_below k i b (suc n) m text some long =
    let size : ℕ = b * k in
    elim (cases_lt m b) [
      | inl short ↦
          let low : m * k ≤ size = mul-le-mul_right {m = m} {n = b} k (omega (arith, short)) in
          let front : length (take size text) ≡ m * k = length-take size text ∙ omega (arith, long, low) in
          let rest : length (drop size text) ≡ 0 * k = length-drop size text ∙ omega (arith, long, low) in
          λ p. block_same k i m (take size text) some front p ∷ blocks_below k i b n 0 (drop size text) some rest p
      | inr whole ↦
          let d : ℕ = m - b in
          let split : m * k ≡ b * k + d * k = (let e : m ≡ b + d = omega (arith, whole) in ap (λ n. n * k) e ∙ add-mul b d k) in
          let front : length (take size text) ≡ b * k = length-take size text ∙ omega (arith, long, split) in
          let rest : length (drop size text) ≡ d * k = length-drop size text ∙ omega (arith, long, split) in
          λ p. block_same k i b (take size text) some front p ∷ blocks_below k i b n d (drop size text) some rest p
    ]

module _ (g : Geometry) (valid : IsGeometry g) (text : List ℕ) (long : length text ≡ rounded_up g.size g.needed) where
  pub blocks_same : (i : ℕ) → blocks_of g.needed i (segments_of (with_padding g) text) ≡ padded_blocks g i text
  blocks_same i =
      (λ p. map (block_of g.needed i) (pieces (padding_count g valid p) (sym (cut g valid) p) text))
      ∙ blocks_below g.needed i (block_size g) (segment_count g) (share_data_size g) text valid.some_needed long
      ∙ λ p. map (padded_block g.needed i) (pieces (segment_count g) (cut g valid p) text)

  -- ---- its shares

  -- a share is its header and blocks, and what follows from the leaves of all trees
  pub padded_in_two : (extension_block : List ℕ) (i : ℕ) → padded_share g text extension_block i
      ≡ header (with_padding g) ++ joined (padded_blocks g i text)
      ++ behind_blocks (with_padding g) (segment_hashes (plain_segments g text)) (block_hashes (padded_blocks g i text)) (padded_leaves g text) extension_block i
  padded_in_two extension_block i =
      let blocks : List (List ℕ) = padded_blocks g i text in
      let plain : List (List ℕ) = segment_hashes (plain_segments g text) in
      behind (header g ++ joined blocks) (replicate (tree_size g) 0) (joined (tree_nodes plain)) (joined (tree_nodes (block_hashes blocks)))
      (share_hashes (padded_leaves g text) i) (spelled (layout_of g) (length extension_block)) extension_block
      ∙ λ p. sym (header_same g valid) p ++ joined blocks ++ (replicate (sym (tree_same g valid) p) 0 ++ joined (tree_nodes plain) ++ joined (tree_nodes (block_hashes blocks))
      ++ share_hashes (padded_leaves g text) i ++ (spelled (sym (layout_same g valid) p) (length extension_block) ++ extension_block))
