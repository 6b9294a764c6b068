-- What an encoding hashes, and its trees.
use Rattle.std.proofs.Common.{◌≡◌, ℕ, ◌*◌, ◌/◌, ◌<◌, ◌≤◌, List, [], ◌∷◌, ◌++◌, length, map, get_or, Contains, refl, subst, sym, ◌∙◌, arith, zero-add}
use Rattle.std.specs.List.{flat_map, range_with_len}
use Rattle.std.proofs.lemmas.Grind.{div_ceil_times}
use Rattle.std.proofs.lemmas.List.{length-map}
use Rattle.std.proofs.lemmas.List.Elements.{Contains-append_left, Contains-append_right}
use Rattle.std.proofs.lemmas.List.FromFn.{get_or-map-range_with_len, get_or-range_with_len, length-map-range_with_len, length-range_with_len}
use Rattle.std.proofs.lemmas.Nat.{div-add-mod'}
use Rattle.tagged_hash.proofs.HashLemmas.{length-double_sha256}
use Rattle.tagged_hash.specs.TaggedHash.{tagged_hash, tagged_input}
use Rattle.tagged_hash.specs.declared.tag.Tag.TheVariants.{Block, Ciphertext, CiphertextSegment, ExtensionBlock}
use Rattle.merkle.proofs.InputLemmas.{AreOf, member_there}
use Rattle.merkle.specs.Inputs.{AreHashes, tree_inputs}
use Rattle.merkle.specs.Tree.{tree_root}
use Rattle.ueb.specs.Block.{ueb_text}
use Rattle.ueb.specs.Shape.{Contents, IsShape}
use Rattle.share_layout.specs.Geometry.{Geometry, block_size, segment_count, share_data_size}
use Rattle.share_layout.specs.Pieces.{segments_of}
use Rattle.share_verify.specs.Pieces.{block_hashes}
use Rattle.proved_parts.proofs.Files.{length-pieces, mapped_are_hashes}
use Rattle.proved_parts.specs.Evidence.{segments_inputs}
use Rattle.proved_parts.specs.FileOf.{segment_hashes}
use Rattle.file_encoding.specs.Encoding.{block_of, blocks_of, extension_block_contents, share_leaves}
use Rattle.file_encoding.specs.Inputs.{blocks_inputs, ciphertext_inputs}
use Rattle.file_encoding.proofs.OwnBlocks.{div_ceil_within}
use Rattle.file_encoding.proofs.OwnShares.{length-tree_root}
use Rattle.file_encoding.proofs.BoundBlocks.{flat_map_has}

module _ (g : Geometry) (ciphertext : List ℕ) where
  abbrev segments : List (List ℕ)
  segments = segments_of g ciphertext

  abbrev pub said : Contents
  said = extension_block_contents g ciphertext segments

  abbrev pub own_blocks : ℕ → List (List ℕ)
  own_blocks i = blocks_of g.needed i segments

  abbrev pub own_leaf : ℕ → List ℕ
  own_leaf i = tree_root (block_hashes (own_blocks i))

  pub length-segments : length segments ≡ segment_count g
  length-segments = length-pieces (segment_count g) g.segment_size ciphertext

  pub segment_leaves : AreHashes (segment_hashes segments)
  segment_leaves = mapped_are_hashes (tagged_hash CiphertextSegment) (λ x. length-double_sha256 _) segments

  pub length-segment_leaves : length (segment_hashes segments) ≡ segment_count g
  length-segment_leaves = length-map segments (tagged_hash CiphertextSegment) ∙ length-segments

  pub block_leaves : (i : ℕ) → AreHashes (block_hashes (own_blocks i))
  block_leaves i = mapped_are_hashes (tagged_hash Block) (λ x. length-double_sha256 _) (own_blocks i)

  pub length-block_leaves : (i : ℕ) → length (block_hashes (own_blocks i)) ≡ segment_count g
  length-block_leaves i = length-map (own_blocks i) (tagged_hash Block) ∙ length-map segments (block_of g.needed i) ∙ length-segments

  pub leaves_of_shares : AreHashes (share_leaves g segments)
  leaves_of_shares = mapped_are_hashes own_leaf (λ i. length-tree_root (block_hashes (own_blocks i)) (block_leaves i)) (range_with_len 0 g.total)

  pub length-share_leaves : length (share_leaves g segments) ≡ g.total
  length-share_leaves = length-map-range_with_len own_leaf 0 g.total

  pub leaf_is : (i : ℕ) → i < g.total → get_or (share_leaves g segments) i [] ≡ own_leaf i
  leaf_is i low = get_or-map-range_with_len own_leaf 0 g.total i i [] low (zero-add i)

  -- ---- all of a kind where what the encoding hashes is

  abbrev first : List (List ℕ)
  first = tagged_input Ciphertext ciphertext ∷ tagged_input ExtensionBlock (ueb_text said) ∷ segments_inputs segments

  abbrev all_blocks : List (List ℕ)
  all_blocks = flat_map (λ i. blocks_inputs (own_blocks i)) (range_with_len 0 g.total)

  module _ (IsOne : List ℕ → Type 0) (mine : AreOf IsOne (ciphertext_inputs g ciphertext)) where
    pub block_among : IsOne (tagged_input ExtensionBlock (ueb_text said))
    block_among =
        mine (tagged_input ExtensionBlock (ueb_text said))
        (Contains-append_left (first ++ tree_inputs (share_leaves g segments)) all_blocks (tagged_input ExtensionBlock (ueb_text said))
        (Contains-append_left first (tree_inputs (share_leaves g segments)) (tagged_input ExtensionBlock (ueb_text said)) (1, omega arith, refl)))

    pub segments_among : AreOf IsOne (segments_inputs segments)
    segments_among x c =
        mine x (Contains-append_left (first ++ tree_inputs (share_leaves g segments)) all_blocks x
        (Contains-append_left first (tree_inputs (share_leaves g segments)) x
        (member_there (tagged_input Ciphertext ciphertext) x (tagged_input ExtensionBlock (ueb_text said) ∷ segments_inputs segments)
        (member_there (tagged_input ExtensionBlock (ueb_text said)) x (segments_inputs segments) c))))

    pub ciphertext_tree_among : AreOf IsOne (tree_inputs (segment_hashes segments))
    ciphertext_tree_among x c = segments_among x (Contains-append_right (map (tagged_input CiphertextSegment) segments) (tree_inputs (segment_hashes segments)) x c)

    pub share_tree_among : AreOf IsOne (tree_inputs (share_leaves g segments))
    share_tree_among x c =
        mine x (Contains-append_left (first ++ tree_inputs (share_leaves g segments)) all_blocks x
        (Contains-append_right first (tree_inputs (share_leaves g segments)) x c))

    all_of : (i : ℕ) → i < g.total → AreOf IsOne (blocks_inputs (own_blocks i))
    all_of i low x c =
        mine x (Contains-append_right (first ++ tree_inputs (share_leaves g segments)) all_blocks x
        (flat_map_has (λ j. blocks_inputs (own_blocks j)) (range_with_len 0 g.total) i x (omega (arith, length-range_with_len 0 g.total, low))
        (subst (λ (j : ℕ). Contains (blocks_inputs (own_blocks j)) x) (sym (get_or-range_with_len 0 g.total i 0 low ∙ zero-add i)) c)))

    pub blocks_among : (i : ℕ) → i < g.total → AreOf IsOne (map (tagged_input Block) (own_blocks i))
    blocks_among i low x c = all_of i low x (Contains-append_left (map (tagged_input Block) (own_blocks i)) (tree_inputs (block_hashes (own_blocks i))) x c)

    pub block_tree_among : (i : ℕ) → i < g.total → AreOf IsOne (tree_inputs (block_hashes (own_blocks i)))
    block_tree_among i low x c = all_of i low x (Contains-append_right (map (tagged_input Block) (own_blocks i)) (tree_inputs (block_hashes (own_blocks i))) x c)

-- a share's blocks are no longer than so many whole ones
pub blocks_fit : (g : Geometry) → IsShape g.needed g.total g.size g.segment_size → share_data_size g ≤ segment_count g * block_size g
blocks_fit g shape =
    let k : ℕ = g.needed in
    let b : ℕ = g.segment_size / k in
    let n : ℕ = segment_count g in
    let cut_size : g.segment_size ≡ b * k = omega (arith, div-add-mod' g.segment_size k, shape.segments.multiple) in
    let ceil = div_ceil_times g.size g.segment_size shape.segments.some in
    let below : g.size ≤ n * (b * k) = subst (λ (s : ℕ). g.size ≤ n * s) cut_size (omega (arith, ceil.0)) in
    div_ceil_within (n * b) k 0 shape.file.some_needed g.size (omega (arith, below))
