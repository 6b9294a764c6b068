-- What follows from the leaves and hashers of the shares of a file whose segments were gathered.
use Rattle.std.proofs.Common.{◌≡◌, ℕ, ◌<◌, List, [], ◌++◌, length, map, replicate, slice_index_or, get_or, ap, sym, ◌∙◌, arith}
use Rattle.std.specs.List.{range_with_len}
use Rattle.std.proofs.lemmas.List.{get_or-map, length-map}
use Rattle.std.proofs.lemmas.List.FromFn.{fill_by_all, get_or-map-range_with_len}
use Rattle.std.proofs.lemmas.Option.{slice_get-get_or}
use Rattle.std.proofs.lemmas.Simd.{map-map}
use Rattle.lemmas.proofs.Positions.{get_of}
use Rattle.lemmas.proofs.Ranges.{same_below}
use Rattle.merkle.specs.Tree.{tree_nodes, tree_root}
use Rattle.tagged_hash.specs.TaggedHash.{share_digest, tagged_hash}
use Rattle.tagged_hash.specs.declared.tag.Tag.TheVariants.{WholeShare}
use Rattle.share_layout.specs.Geometry.{Geometry, tree_size}
use Rattle.share_layout.specs.Pieces.{segments_of}
use Rattle.share_layout.specs.Writing.{ending}
use Rattle.share_verify.specs.Pieces.{block_hashes, joined}
use Rattle.proved_parts.specs.FileOf.{segment_hashes}
use Rattle.file_encoding.specs.Encoding.{blocks_of, share_hashes, share_leaves, share_of}
use Rattle.share_gathering.specs.Finishing.{bytes_behind}
use Rattle.share_gathering.specs.Gathered.{Gathered, IsGathered, behind_blocks}
use Rattle.share_gathering.specs.Shares.{HoldShares}
use Rattle.share_gathering.specs.declared.finishing.Behind.{Behind}
use Rattle.share_gathering.specs.declared.shares.ShareSoFar.{ShareSoFar}
use Rattle.share_gathering.proofs.OneByOne.{digest_in_order}

module _ (g : Geometry) (text : List ℕ) (s : Gathered) (is : IsGathered g text s) where
  abbrev segments : List (List ℕ)
  segments = segments_of g text

  -- the leaves that are held are the hashes of the shares' blocks
  pub block_leaves_are : (shares : List ShareSoFar) → HoldShares s shares → length shares ≡ g.total
      → map (λ (share : ShareSoFar). share.leaves.items) shares ≡ map (λ i. block_hashes (blocks_of g.needed i segments)) (range_with_len 0 g.total)
  block_leaves_are shares held count =
      let leaves : ShareSoFar → List (List ℕ) = λ share. share.leaves.items in
      fill_by_all (λ i. block_hashes (blocks_of g.needed i segments)) (map leaves shares) g.total [] (length-map shares leaves ∙ count)
      (λ k low.
      let within : k < length shares = omega (arith, low, count) in
      let share : ShareSoFar = (get_of shares k within).0 in
      get_or-map leaves shares k share [] within ∙ held k (get_or shares k share) (slice_get-get_or shares k share within) ∙ is.block_leaves k)

  -- so their roots are the leaves of the share tree
  pub roots_are : (trees : List (List (List ℕ))) → trees ≡ map (λ i. block_hashes (blocks_of g.needed i segments)) (range_with_len 0 g.total)
      → map tree_root trees ≡ share_leaves g segments
  roots_are trees are = ap (map tree_root) are ∙ map-map tree_root (λ i. block_hashes (blocks_of g.needed i segments)) (range_with_len 0 g.total)

  -- what is kept to stand behind the blocks of a share is what stands there
  pub behind_is : (b : Behind) (i : ℕ) → i < g.total → b.ciphertext_tree ≡ segment_hashes segments
      → b.block_trees.items ≡ map (λ i. block_hashes (blocks_of g.needed i segments)) (range_with_len 0 g.total)
      → map (λ (h : _). h.items) b.share_hashes.items ≡ map (share_hashes (share_leaves g segments)) (range_with_len 0 g.total)
      → bytes_behind g b i ≡ behind_blocks g s.leaves (s.block_leaves i) (share_leaves g segments) b.extension_block.items i
  behind_is b i low tree trees hashes =
      let own : slice_index_or b.block_trees.items i [] ≡ s.block_leaves i =
      ap (λ (l : List (List (List ℕ))). slice_index_or l i []) trees
      ∙ get_or-map-range_with_len (λ i. block_hashes (blocks_of g.needed i segments)) 0 g.total i i [] low (omega arith) ∙ sym (is.block_leaves i) in
      let carried : slice_index_or (map (λ (h : _). h.items) b.share_hashes.items) i [] ≡ share_hashes (share_leaves g segments) i =
      ap (λ (l : List (List ℕ)). slice_index_or l i []) hashes
      ∙ get_or-map-range_with_len (share_hashes (share_leaves g segments)) 0 g.total i i [] low (omega arith) in
      λ p. replicate (tree_size g) 0 ++ joined (tree_nodes ((tree ∙ sym is.leaves) p)) ++ joined (tree_nodes (own p)) ++ carried p ++ ending g b.extension_block.items

  -- so the digests are those of the shares
  pub digests_are : (b : Behind) (digests : List (List ℕ)) → b.ciphertext_tree ≡ segment_hashes segments
      → b.block_trees.items ≡ map (λ i. block_hashes (blocks_of g.needed i segments)) (range_with_len 0 g.total)
      → map (λ (h : _). h.items) b.share_hashes.items ≡ map (share_hashes (share_leaves g segments)) (range_with_len 0 g.total)
      → digests ≡ map (λ i. tagged_hash WholeShare (s.written i ++ bytes_behind g b i)) (range_with_len 0 g.total)
      → digests ≡ map (λ i. share_digest (share_of g segments b.extension_block.items i)) (range_with_len 0 g.total)
  digests_are b digests tree trees hashes made =
      made
      ∙ same_below (λ i. tagged_hash WholeShare (s.written i ++ bytes_behind g b i)) (λ i. share_digest (share_of g segments b.extension_block.items i)) g.total
      (λ i low. ap (λ (l : List ℕ). tagged_hash WholeShare (s.written i ++ l)) (behind_is b i low tree trees hashes) ∙ sym (digest_in_order g text b.extension_block.items s i is))
