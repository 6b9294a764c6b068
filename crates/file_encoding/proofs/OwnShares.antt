-- The shares of an encoding are sound.
use Rattle.std.proofs.Common.{◌≡◌, ℕ, ◌+◌, ◌-◌, ◌*◌, ◌/◌, ◌^◌, ◌<◌, ◌≤◌, List, [], length, get_or, map, replicate, ap, refl, subst, sym, ◌∙◌, arith, zero-add}
use Rattle.std.specs.Int.{div_ceil}
use Rattle.std.specs.List.{range_with_len}
use Rattle.std.proofs.lemmas.Grind.{div_ceil_times}
use Rattle.std.proofs.lemmas.List.{length-map, length-replicate}
use Rattle.std.proofs.lemmas.List.FromFn.{get_or-map-range_with_len, length-map-range_with_len}
use Rattle.std.proofs.lemmas.Nat.{div-add-mod'}
use Rattle.tagged_hash.specs.TaggedHash.{tagged_hash}
use Rattle.tagged_hash.specs.declared.tag.Tag.TheVariants.{Block, CiphertextSegment}
use Rattle.tagged_hash.proofs.HashLemmas.{length-double_sha256}
use Rattle.merkle.proofs.TreeLemmas.{tree_nodes_first, length-tree_nodes}
use Rattle.merkle.specs.Tree.{height, needed_numbers, tree_nodes, tree_root}
use Rattle.cap_text.specs.Cap.{verify_cap_of}
use Rattle.ueb.proofs.Written.{is_written}
use Rattle.ueb.specs.Block.{IsUeb, ueb_text}
use Rattle.ueb.specs.Shape.{AreContents, Contents, IsShape}
use Rattle.share_layout.specs.Geometry.{Geometry, IsGeometry, block_size, geometry_of, segment_count, share_data_size, tree_size}
use Rattle.share_layout.specs.Share.{CarriesNumbers, HaveLengths, IsShare, Sections, share_bytes}
use Rattle.aes_ctr.specs.CounterMode.{xored}
use Rattle.aes_ctr.proofs.StreamLemmas.{length-xored_from}
use Rattle.tagged_hash.specs.ConvergentKey.{convergent_key_of}
use Rattle.share_layout.proofs.LawLemmas.{locates_own}
use Rattle.merkle.proofs.NumberLemmas.{length-needed_numbers}
use Rattle.share_verify.specs.Pieces.{block_hashes, joined}
use Rattle.share_layout.specs.Pieces.{pieces, segments_of}
use Rattle.share_verify.specs.ShareHashes.{LeadsByEntries, entries_in}
use Rattle.share_verify.specs.TreeSection.{AreHashes, HoldsTree, root_in}
use Rattle.share_verify.specs.Verify.{AreSound, IsSound}
use Rattle.share_verify.proofs.GeometryOfUeb.{is_geometry}
use Rattle.share_verify.proofs.ChunkLemmas.{length-first_chunks, length-joined, pieces_are_chunks}
use Rattle.share_verify.proofs.SectionLemmas.{root_of_tree, tree_nodes_are_hashes}
use Rattle.file_encoding.specs.Encoding.{block_of, blocks_of, ciphertext_encoding, encoding_of, extension_block_contents, share_hashes, share_leaves, share_of}
use Rattle.proved_parts.specs.FileOf.{segment_hashes}
use Rattle.ueb.specs.Limits.{max_length}
use Rattle.share_verify.specs.CapBlock.{geometry_by}
use Rattle.std.proofs.lemmas.List.{length-append}
use Rattle.lemmas.proofs.Numbers.{next_power}
use Rattle.share_layout.specs.Layout.{layout_of, spelled}
use Rattle.share_verify.specs.TreeSection.{IsTreeWithRoot}
use Rattle.file_encoding.specs.Laws.{AcceptedSharesPass, CiphertextSharesPass, FileSharesPass, SharesHaveOneLength}
use Rattle.file_encoding.specs.Encoding.{sections_of}
use Rattle.file_encoding.proofs.OwnBlocks.{are_cut}
use Rattle.proved_parts.proofs.Files.{mapped_are_hashes}
use Rattle.file_encoding.proofs.OwnHashes.{entries_carry, length-entries, needed_hashes, own_hashes_lead}

-- a root is a hash
pub length-tree_root : (leaves : List (List ℕ)) → AreHashes leaves → length (tree_root leaves) ≡ 32
length-tree_root leaves hashes =
    ap length (sym (tree_nodes_first leaves []))
    ∙ tree_nodes_are_hashes leaves hashes 0 (omega (arith, length-tree_nodes leaves, next_power (height (length leaves))))

-- how long a section with a tree is
pub length-tree_section : (leaves : List (List ℕ)) → AreHashes leaves → length (joined (tree_nodes leaves)) ≡ (2 * 2 ^ height (length leaves) - 1) * 32
length-tree_section leaves hashes =
    length-joined 32 (tree_nodes leaves) (tree_nodes_are_hashes leaves hashes)
    ∙ ap (λ (n : ℕ). n * 32) (omega (arith, length-tree_nodes leaves, next_power (height (length leaves))))

module _ (g : Geometry) (ciphertext : List ℕ) where
  abbrev segments : List (List ℕ)
  segments = segments_of g ciphertext

  abbrev contents : Contents
  contents = extension_block_contents g ciphertext segments

  length-segments : length segments ≡ segment_count g
  length-segments =
      ap length (pieces_are_chunks (segment_count g) g.segment_size ciphertext) ∙ length-first_chunks g.segment_size (segment_count g) ciphertext

  segment_leaves : AreHashes (segment_hashes segments)
  segment_leaves = mapped_are_hashes (tagged_hash CiphertextSegment) (λ x. length-double_sha256 _) segments

  length-segment_leaves : length (segment_hashes segments) ≡ segment_count g
  length-segment_leaves = length-map segments (tagged_hash CiphertextSegment) ∙ length-segments

  leaves_of_blocks : (i : ℕ) → AreHashes (block_hashes (blocks_of g.needed i segments))
  leaves_of_blocks i = mapped_are_hashes (tagged_hash Block) (λ x. length-double_sha256 _) (blocks_of g.needed i segments)

  length-block_leaves : (i : ℕ) → length (block_hashes (blocks_of g.needed i segments)) ≡ segment_count g
  length-block_leaves i =
      length-map (blocks_of g.needed i segments) (tagged_hash Block) ∙ length-map segments (block_of g.needed i) ∙ length-segments

  leaves_of_shares : AreHashes (share_leaves g segments)
  leaves_of_shares = mapped_are_hashes (λ i. tree_root (block_hashes (blocks_of g.needed i segments))) (λ i. length-tree_root (block_hashes (blocks_of g.needed i segments)) (leaves_of_blocks i)) (range_with_len 0 g.total)

  length-share_leaves : length (share_leaves g segments) ≡ g.total
  length-share_leaves = length-map-range_with_len (λ i. tree_root (block_hashes (blocks_of g.needed i segments))) 0 g.total

  module _ (shape : IsShape g.needed g.total g.size g.segment_size) (whole : length ciphertext ≡ g.size) where
    -- the extension block is one of the grammar
    pub valid : AreContents contents
    valid = record {
      shape = shape;
      crypttext_hash = length-double_sha256 _;
      crypttext_root_hash = length-tree_root (segment_hashes segments) segment_leaves;
      share_root_hash = length-tree_root (share_leaves g segments) leaves_of_shares;
    }

    pub written : IsUeb (ueb_text contents) contents
    written = is_written contents (ueb_text contents) valid refl

    pub geometry_is : IsGeometry g
    geometry_is = is_geometry contents valid

  module _ (is : IsGeometry g) (whole : length ciphertext ≡ g.size) (i : ℕ) (low : i < g.total) where
    -- the blocks, joined and cut
    pub record AreJoined : Type 0 where
      pub size : length (joined (blocks_of g.needed i segments)) ≡ share_data_size g
      pub again : pieces (segment_count g) (block_size g) (joined (blocks_of g.needed i segments)) ≡ blocks_of g.needed i segments

    pub blocks_are_joined : AreJoined
    blocks_are_joined =
        let k : ℕ = g.needed in
        let b : ℕ = g.segment_size / k in
        let n : ℕ = segment_count g in
        let some = is.some_needed in
        let cut_size : g.segment_size ≡ b * k = omega (arith, div-add-mod' g.segment_size k, is.multiple) in
        let ceil = div_ceil_times g.size g.segment_size is.some_segment in
        let below : length ciphertext ≤ n * (b * k) = subst (λ (s : ℕ). length ciphertext ≤ n * s) cut_size (omega (arith, ceil.0, whole)) in
        let above : n * (b * k) < length ciphertext + b * k = subst (λ (s : ℕ). n * s < length ciphertext + s) cut_size (omega (arith, ceil.1, whole)) in
        let cut = are_cut b k i some n ciphertext below above in
        let same : blocks_of k i segments ≡ map (block_of k i) (pieces n (b * k) ciphertext) = ap (λ (s : ℕ). map (block_of k i) (pieces n s ciphertext)) cut_size in
        record {
          size = ap (λ (l : List (List ℕ)). length (joined l)) same ∙ cut.size ∙ ap (λ (l : ℕ). div_ceil l k) whole;
          again = ap (λ (l : List (List ℕ)). pieces n b (joined l)) same ∙ cut.again ∙ sym same;
        }

    few : length (share_leaves g segments) ≤ 2 ^ 8
    few = omega (arith, length-share_leaves, is.shares)

    inside : i < length (share_leaves g segments)
    inside = omega (arith, length-share_leaves)

    block_tree_holds : HoldsTree (joined (tree_nodes (block_hashes (blocks_of g.needed i segments)))) (block_hashes (blocks_of g.needed i segments))
    block_tree_holds = record { hashes = leaves_of_blocks i; nodes = refl }

    own_leaf : get_or (share_leaves g segments) i [] ≡ root_in (joined (tree_nodes (block_hashes (blocks_of g.needed i segments))))
    own_leaf =
        get_or-map-range_with_len (λ j. tree_root (block_hashes (blocks_of g.needed j segments))) 0 g.total i i [] low (zero-add i)
        ∙ root_of_tree (joined (tree_nodes (block_hashes (blocks_of g.needed i segments)))) (block_hashes (blocks_of g.needed i segments)) block_tree_holds

    pub lengths : (block : List ℕ) → length block ≤ max_length → HaveLengths g (sections_of g segments block i)
    lengths block short = record {
      blocks = blocks_are_joined.size;
      unused = length-replicate (tree_size g) 0;
      ciphertext_tree = length-tree_section (segment_hashes segments) segment_leaves ∙ ap (λ (n : ℕ). (2 * 2 ^ height n - 1) * 32) length-segment_leaves;
      block_tree = length-tree_section (block_hashes (blocks_of g.needed i segments)) (leaves_of_blocks i) ∙ ap (λ (n : ℕ). (2 * 2 ^ height n - 1) * 32) (length-block_leaves i);
      share_hashes =
          length-entries (λ n. get_or (tree_nodes (share_leaves g segments)) n []) (needed_numbers (height (length (share_leaves g segments))) i) (needed_hashes (share_leaves g segments) i leaves_of_shares inside few)
          ∙ ap (λ (n : ℕ). n * 34) (length-needed_numbers (height (length (share_leaves g segments))) i ∙ ap (λ (t : ℕ). height t + 1) length-share_leaves);
      extension_block = short;
    }

    pub layout : (block : List ℕ) → length block ≤ max_length → IsShare g i (share_of g segments block i) (sections_of g segments block i)
    layout block short = record {
      text = refl;
      lengths = lengths block short;
      number = low;
      numbers = subst (λ (t : ℕ). CarriesNumbers (needed_numbers (height t) i) (share_hashes (share_leaves g segments) i)) length-share_leaves
          (entries_carry (λ n. get_or (tree_nodes (share_leaves g segments)) n []) (needed_numbers (height (length (share_leaves g segments))) i) (needed_hashes (share_leaves g segments) i leaves_of_shares inside few));
    }

    pub own_sections : (block : List ℕ) → AreSound contents i (sections_of g segments block i)
    own_sections block = record {
      unused = ap (λ (n : ℕ). replicate n 0) (sym (length-replicate (tree_size g) 0));
      ciphertext_tree = record {
        leaves = segment_hashes segments;
        count = length-segment_leaves;
        holds = record { hashes = segment_leaves; nodes = refl };
        root = refl;
      };
      block_tree = record { leaves = block_hashes (blocks_of g.needed i segments); count = length-block_leaves i; holds = block_tree_holds };
      share_hashes =
          subst (λ (h : List ℕ). LeadsByEntries g.total (tree_root (share_leaves g segments)) i h (entries_in (share_hashes (share_leaves g segments) i))) own_leaf
          (subst (λ (t : ℕ). LeadsByEntries t (tree_root (share_leaves g segments)) i (get_or (share_leaves g segments) i []) (entries_in (share_hashes (share_leaves g segments) i))) length-share_leaves
          (own_hashes_lead (share_leaves g segments) i leaves_of_shares inside few));
      blocks = subst (λ (l : List (List ℕ)). HoldsTree (joined (tree_nodes (block_hashes (blocks_of g.needed i segments)))) (block_hashes l)) (sym blocks_are_joined.again) block_tree_holds;
    }

-- each share with an extension block that a cap accepts, and that tells the computed roots, is sound
pub accepted_shares_pass : AcceptedSharesPass
accepted_shares_pass cap block u ciphertext ueb whole ciphertext_root share_root i low =
    let g = geometry_by u in
    let segments = segments_of g ciphertext in
    let s = sections_of g segments block i in
    let geometry = is_geometry u ueb.grammar.contents in
    let is = layout g ciphertext geometry whole i low block ueb.grammar.short in
    let own = own_sections g ciphertext geometry whole i low block in
    record {
      reads = record {
        located = locates_own g i (share_of g segments block i) s geometry is;
        ueb = ueb;
        layout = is;
      };
      sections = record {
        unused = own.unused;
        ciphertext_tree =
            subst (λ (r : List ℕ). IsTreeWithRoot (segment_count g) r s.ciphertext_tree) (sym ciphertext_root) own.ciphertext_tree;
        block_tree = own.block_tree;
        share_hashes =
            subst (λ (r : List ℕ). LeadsByEntries u.total_shares r i (root_in s.block_tree) (entries_in s.share_hashes)) (sym share_root) own.share_hashes;
        blocks = own.blocks;
      };
    }

-- each share of a ciphertext's encoding is sound
pub ciphertext_shares_pass : CiphertextSharesPass
unfolding ciphertext_encoding
ciphertext_shares_pass g key ciphertext shape whole i low =
    let segments = segments_of g ciphertext in
    let u = extension_block_contents g ciphertext segments in
    let block = ueb_text u in
    let s = sections_of g segments block i in
    let cap = verify_cap_of (ciphertext_encoding g key ciphertext).cap in
    let here : get_or (map (share_of g segments block) (range_with_len 0 g.total)) i [] ≡ share_bytes g s =
    get_or-map-range_with_len (share_of g segments block) 0 g.total i i [] low (zero-add i) in
    subst (λ (bytes : List ℕ). IsSound cap i bytes u s) (sym here)
    (accepted_shares_pass cap block u ciphertext record { hash = refl; grammar = written g ciphertext shape whole; needed = refl; total = refl; size = refl }
    whole refl refl i low)

-- two shares with one extension block have one length
same_length : (g : Geometry) (s t : Sections) → HaveLengths g s → HaveLengths g t → s.extension_block ≡ t.extension_block
    → length (share_bytes g s) ≡ length (share_bytes g t)
same_length g s t a b same =
    let number : length (spelled (layout_of g) (length s.extension_block)) ≡ length (spelled (layout_of g) (length t.extension_block)) =
    ap (λ (e : List ℕ). length (spelled (layout_of g) (length e))) same in
    simp length-append
    (omega (arith, number, ap length same, a.blocks, a.unused, a.ciphertext_tree, a.block_tree, a.share_hashes, b.blocks, b.unused, b.ciphertext_tree, b.block_tree, b.share_hashes))

-- the shares of a file's encoding have one length
pub shares_have_one_length : SharesHaveOneLength
unfolding ciphertext_encoding encoding_of
shares_have_one_length file secret p shape i j low other =
    let g = geometry_of (length file) p.needed p.total p.max_segment in
    let key = convergent_key_of p.needed p.total g.segment_size secret file in
    let ciphertext = xored key file in
    let whole : length ciphertext ≡ g.size = length-xored_from key 0 file in
    let segments = segments_of g ciphertext in
    let block = ueb_text (extension_block_contents g ciphertext segments) in
    let short = (written g ciphertext shape whole).short in
    let is = geometry_is g ciphertext shape whole in
    let at : (n : ℕ) → n < g.total → get_or (map (share_of g segments block) (range_with_len 0 g.total)) n [] ≡ share_of g segments block n =
    λ n below. get_or-map-range_with_len (share_of g segments block) 0 g.total n n [] below (zero-add n) in
    ap length (at i low)
    ∙ same_length g (sections_of g segments block i) (sections_of g segments block j) (lengths g ciphertext is whole i low block short) (lengths g ciphertext is whole j other block short) refl
    ∙ sym (ap length (at j other))

-- and so is each share of a file's
pub file_shares_pass : FileSharesPass
unfolding encoding_of
file_shares_pass file secret p shape i low =
    let g = geometry_of (length file) p.needed p.total p.max_segment in
    let key = convergent_key_of p.needed p.total g.segment_size secret file in
    let ciphertext = xored key file in
    let sound = ciphertext_shares_pass g key ciphertext shape (length-xored_from key 0 file) i low in
    (extension_block_contents g ciphertext (segments_of g ciphertext), sections_of g (segments_of g ciphertext) (ueb_text (extension_block_contents g ciphertext (segments_of g ciphertext))) i, sound)
