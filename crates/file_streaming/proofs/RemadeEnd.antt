-- What follows from the leaves and hashers of the shares of a padded ciphertext.
use Rattle.std.proofs.Common.{◌≡◌, ℕ, ◌<◌, ◌≤◌, ◌^◌, List, [], ◌++◌, length, map, take, replicate, slice_index_or, ap, subst, sym, ◌∙◌, arith, zero-add}
use Rattle.std.specs.List.{range_with_len}
use Rattle.std.proofs.lemmas.List.{get_or-map, length-map}
use Rattle.std.proofs.lemmas.List.FromFn.{fill_by_all, get_or-map-range_with_len, length-map-range_with_len}
use Rattle.std.proofs.lemmas.Option.{slice_get-get_or}
use Rattle.std.proofs.lemmas.Simd.{map-map}
use Rattle.lemmas.proofs.Positions.{get_of}
use Rattle.lemmas.proofs.Ranges.{same_below}
use Rattle.merkle.specs.Tree.{tree_nodes, tree_root}
use Rattle.tagged_hash.specs.TaggedHash.{share_digest, tagged_hash}
use Rattle.tagged_hash.specs.declared.tag.Tag.TheVariants.{Block, CiphertextSegment, WholeShare}
use Rattle.ueb.specs.Shape.{Contents}
use Rattle.share_layout.specs.Geometry.{Geometry, IsGeometry, segment_count, tree_size, with_padding}
use Rattle.share_layout.proofs.GeometryLemmas.{padding_count}
use Rattle.share_layout.specs.Layout.{header}
use Rattle.share_layout.specs.Pieces.{pieces, segments_of}
use Rattle.share_layout.specs.Writing.{ending}
use Rattle.share_verify.specs.CapBlock.{geometry_by}
use Rattle.share_verify.specs.Pieces.{block_hashes, joined}
use Rattle.proved_parts.specs.FileOf.{segment_hashes}
use Rattle.proved_parts.proofs.Files.{length-pieces}
use Rattle.file_encoding.specs.Blocks.{padded_block, padded_blocks}
use Rattle.file_encoding.specs.Encoding.{share_hashes}
use Rattle.file_encoding.specs.Padded.{padded_leaves, padded_share, padded_shares, plain_segments}
use Rattle.file_encoding.proofs.Making.{some_segments}
use Rattle.share_gathering.specs.Finishing.{HaveLeaves, bytes_behind}
use Rattle.share_gathering.specs.Gathered.{Gathered, gathered_none, gathered_segments}
use Rattle.file_streaming.specs.Remaking.{IsRemaking}
use Rattle.share_gathering.specs.declared.finishing.Behind.{Behind}
use Rattle.file_streaming.specs.declared.remaking.Remaking.{Remaking}
use Rattle.share_gathering.specs.declared.shares.ShareSoFar.{ShareSoFar}
use Rattle.share_gathering.proofs.OneByOne.{block_leaves-all, written-all}
use Rattle.file_streaming.proofs.PaddedTexts.{blocks_same, padded_in_two, plain_same}

-- what is gathered of a padded text with this geometry
abbrev pub gathered_padded : Geometry → List ℕ → Gathered
gathered_padded p text = gathered_segments p (segments_of p text) (gathered_none p)

module _ (u : Contents) (valid : IsGeometry (geometry_by u)) (text : List ℕ) (x : Remaking) (is : IsRemaking (with_padding (geometry_by u)) u.size text x) where
  abbrev g : Geometry
  g = geometry_by u

  abbrev pub p : Geometry
  p = with_padding g

  abbrev s : Gathered
  s = gathered_padded p text

  abbrev own : ℕ → List (List ℕ)
  own i = block_hashes (padded_blocks g i text)

  pub leaves_are : x.leaves.items ≡ segment_hashes (plain_segments g text)
  leaves_are = is.leaves ∙ (λ i. segment_hashes (pieces (padding_count g valid i) g.segment_size (take g.size text))) ∙ ap segment_hashes (plain_same g valid text)

  leaves_long : length x.leaves.items ≡ segment_count g
  leaves_long = ap length leaves_are ∙ length-map (plain_segments g text) (tagged_hash CiphertextSegment) ∙ length-map-range_with_len _ 0 (segment_count g)

  own_leaves : (i : ℕ) → s.block_leaves i ≡ own i
  own_leaves i = block_leaves-all p i (segments_of p text) (gathered_none p) ∙ ap block_hashes (blocks_same g valid text is.long i)

  own_written : (i : ℕ) → s.written i ≡ header p ++ joined (padded_blocks g i text)
  own_written i = written-all p i (segments_of p text) (gathered_none p) ∙ ap (λ (l : List (List ℕ)). header p ++ joined l) (blocks_same g valid text is.long i)

  length-own : (i : ℕ) → length (own i) ≡ segment_count g
  length-own i =
      length-map (padded_blocks g i text) (tagged_hash Block) ∙ length-map (pieces (segment_count g) g.segment_size text) (padded_block g.needed i)
      ∙ length-pieces (segment_count g) g.segment_size text

  share_leaves_are : (k : ℕ) (d : ShareSoFar) → k < length x.shares.items → (slice_index_or x.shares.items k d).leaves.items ≡ own k
  share_leaves_are k d low = is.holds.shares k (slice_index_or x.shares.items k d) (slice_get-get_or x.shares.items k d low) ∙ own_leaves k

  share_long : (k : ℕ) (d : ShareSoFar) → k < length x.shares.items → length (slice_index_or x.shares.items k d).leaves.items ≡ segment_count g
  share_long k d low = ap length (share_leaves_are k d low) ∙ length-own k

  have_leaves : (leaves : List (List ℕ)) → length leaves ≡ segment_count g → HaveLeaves leaves
  have_leaves leaves count = record {
    some = subst (λ n. 0 < n) (sym count) (some_segments g valid);
    few = subst (λ n. n ≤ 2 ^ 20) (sym count) valid.few;
  }

  pub leaves_fit : HaveLeaves x.leaves.items
  leaves_fit = have_leaves x.leaves.items leaves_long

  pub all_fit : (k : ℕ) (d : ShareSoFar) → k < length x.shares.items → HaveLeaves (slice_index_or x.shares.items k d).leaves.items
  all_fit k d low = have_leaves (slice_index_or x.shares.items k d).leaves.items (share_long k d low)

  pub share_count : length x.shares.items ≡ u.total_shares
  share_count = is.holds.count

  abbrev leaves_of : ShareSoFar → List (List ℕ)
  leaves_of share = share.leaves.items

  pub block_leaves_are : map leaves_of x.shares.items ≡ map own (range_with_len 0 u.total_shares)
  block_leaves_are =
      fill_by_all own (map leaves_of x.shares.items) u.total_shares [] (length-map x.shares.items leaves_of ∙ share_count)
      (λ k low.
      let within : k < length x.shares.items = omega (arith, low, share_count) in
      let share : ShareSoFar = (get_of x.shares.items k within).0 in
      get_or-map leaves_of x.shares.items k share [] within ∙ share_leaves_are k share within)

  -- and their roots the leaves of the share tree
  pub roots_are : (trees : List (List (List ℕ))) → trees ≡ map leaves_of x.shares.items → map tree_root trees ≡ padded_leaves g text
  roots_are trees are = ap (map tree_root) (are ∙ block_leaves_are) ∙ map-map tree_root own (range_with_len 0 u.total_shares)

  -- the digests are those of the shares
  pub digests_are : (b : Behind) (extension_block : List ℕ) (digests : List (List ℕ)) → b.ciphertext_tree ≡ segment_hashes (plain_segments g text)
      → b.block_trees.items ≡ map own (range_with_len 0 u.total_shares)
      → map (λ (h : _). h.items) b.share_hashes.items ≡ map (share_hashes (padded_leaves g text)) (range_with_len 0 u.total_shares)
      → b.extension_block.items ≡ extension_block
      → digests ≡ map (λ i. tagged_hash WholeShare (s.written i ++ bytes_behind p b i)) (range_with_len 0 u.total_shares)
      → digests ≡ map share_digest (padded_shares g text extension_block)
  digests_are b extension_block digests tree trees hashes copied made =
      made
      ∙ same_below (λ i. tagged_hash WholeShare (s.written i ++ bytes_behind p b i)) (λ i. share_digest (padded_share g text extension_block i)) u.total_shares
      (λ i low.
      let own_tree : slice_index_or b.block_trees.items i [] ≡ own i =
      ap (λ (l : List (List (List ℕ))). slice_index_or l i []) trees ∙ get_or-map-range_with_len own 0 u.total_shares i i [] low (zero-add i) in
      let carried : slice_index_or (map (λ (h : _). h.items) b.share_hashes.items) i [] ≡ share_hashes (padded_leaves g text) i =
      ap (λ (l : List (List ℕ)). slice_index_or l i []) hashes ∙ get_or-map-range_with_len (share_hashes (padded_leaves g text)) 0 u.total_shares i i [] low (zero-add i) in
      ap (tagged_hash WholeShare)
      ((λ q. own_written i q ++ (replicate (tree_size p) 0 ++ joined (tree_nodes (tree q)) ++ joined (tree_nodes (own_tree q)) ++ carried q ++ ending p (copied q)))
      ∙ sym (padded_in_two g valid text is.long extension_block i)))
      ∙ sym (map-map share_digest (padded_share g text extension_block) (range_with_len 0 u.total_shares))
