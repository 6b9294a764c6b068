-- Shares that are made anew pass every check, and have one length.
use Rattle.std.proofs.Common.{◌≡◌, ℕ, ◌+◌, ◌-◌, ◌*◌, ◌^◌, ◌<◌, ◌≤◌, List, [], ◌++◌, length, get_or, replicate, ap, refl, subst, sym, ◌∙◌, arith, zero-add}
use Rattle.std.specs.List.{range_with_len}
use Rattle.std.proofs.lemmas.List.{length-append, length-map, length-replicate}
use Rattle.std.proofs.lemmas.List.FromFn.{get_or-map-range_with_len, length-map-range_with_len}
use Rattle.tagged_hash.proofs.HashLemmas.{length-double_sha256}
use Rattle.tagged_hash.specs.TaggedHash.{tagged_hash}
use Rattle.tagged_hash.specs.declared.tag.Tag.TheVariants.{Block, CiphertextSegment}
use Rattle.merkle.proofs.NumberLemmas.{length-needed_numbers}
use Rattle.merkle.specs.Tree.{height, needed_numbers, tree_nodes, tree_root}
use Rattle.cap_text.specs.Cap.{VerifyCapValue}
use Rattle.ueb.specs.Limits.{max_length}
use Rattle.ueb.specs.Shape.{Contents, rounded_up}
use Rattle.share_layout.specs.Geometry.{Geometry, IsGeometry, segment_count, tree_size}
use Rattle.share_layout.specs.declared.layout.Layout.{Layout}
use Rattle.share_layout.specs.declared.layout.Layout.TheVariants.{One, Two}
use Rattle.share_layout.specs.Layout.{header, header_size, layout_of, spelled}
use Rattle.share_layout.specs.Pieces.{pieces}
use Rattle.share_layout.specs.Share.{CarriesNumbers, HaveLengths, IsShare, Sections, share_bytes}
use Rattle.share_layout.proofs.LawLemmas.{have_bounds, locates_own}
use Rattle.share_layout.proofs.LayoutLemmas.{length-header}
use Rattle.share_verify.specs.CapBlock.{IsUebFor, geometry_by}
use Rattle.share_verify.specs.Pieces.{block_hashes, joined}
use Rattle.share_verify.specs.ShareHashes.{LeadsByEntries, entries_in}
use Rattle.share_verify.specs.TreeSection.{AreHashes, HoldsTree, IsTreeWithRoot, root_in}
use Rattle.share_verify.specs.Verify.{IsSound}
use Rattle.share_verify.proofs.GeometryOfUeb.{is_geometry}
use Rattle.share_verify.proofs.SectionLemmas.{root_of_tree}
use Rattle.proved_parts.proofs.Files.{length-pieces, mapped_are_hashes}
use Rattle.proved_parts.specs.FileOf.{segment_hashes}
use Rattle.file_encoding.specs.Blocks.{padded_block, padded_blocks}
use Rattle.file_encoding.specs.Encoding.{share_hashes}
use Rattle.file_encoding.proofs.Drafting.{length-padded_blocks, padded_blocks-again}
use Rattle.file_encoding.proofs.OwnHashes.{entries_carry, length-entries, needed_hashes, own_hashes_lead}
use Rattle.file_encoding.proofs.OwnShares.{length-tree_root, length-tree_section}
use Rattle.file_encoding.specs.RemadeLaws.{ArePassing, RegeneratedPass}
use Rattle.file_encoding.specs.Padded.{padded_leaves, padded_sections, padded_share, padded_shares, plain_segments}

module _ (g : Geometry) (text block : List ℕ) (valid : IsGeometry g) (size : length text ≡ rounded_up g.size g.needed) (short : length block ≤ max_length) where
  abbrev plain : List (List ℕ)
  plain = segment_hashes (plain_segments g text)

  abbrev blocks : ℕ → List (List ℕ)
  blocks i = padded_blocks g i text

  abbrev leaves : List (List ℕ)
  leaves = padded_leaves g text

  abbrev sections : ℕ → Sections
  sections i = padded_sections g text block i

  plain_leaves : AreHashes plain
  plain_leaves = mapped_are_hashes (tagged_hash CiphertextSegment) (λ x. length-double_sha256 _) (plain_segments g text)

  length-plain : length plain ≡ segment_count g
  length-plain = length-map (plain_segments g text) (tagged_hash CiphertextSegment) ∙ length-map-range_with_len _ 0 (segment_count g)

  block_leaves : (i : ℕ) → AreHashes (block_hashes (blocks i))
  block_leaves i = mapped_are_hashes (tagged_hash Block) (λ x. length-double_sha256 _) (blocks i)

  length-block_leaves : (i : ℕ) → length (block_hashes (blocks i)) ≡ segment_count g
  length-block_leaves i =
      length-map (blocks i) (tagged_hash Block) ∙ length-map (pieces (segment_count g) g.segment_size text) (padded_block g.needed i)
      ∙ length-pieces (segment_count g) g.segment_size text

  leaves_of_shares : AreHashes leaves
  leaves_of_shares = mapped_are_hashes (λ i. tree_root (block_hashes (blocks i))) (λ i. length-tree_root (block_hashes (blocks i)) (block_leaves i)) (range_with_len 0 g.total)

  length-leaves : length leaves ≡ g.total
  length-leaves = length-map-range_with_len (λ i. tree_root (block_hashes (blocks i))) 0 g.total

  few : length leaves ≤ 2 ^ 8
  few = omega (arith, length-leaves, valid.shares)

  holds : (i : ℕ) → HoldsTree (joined (tree_nodes (block_hashes (blocks i)))) (block_hashes (blocks i))
  holds i = record { hashes = block_leaves i; nodes = refl }

  module _ (i : ℕ) (low : i < g.total) where
    inside : i < length leaves
    inside = omega (arith, low, length-leaves)

    own_leaf : get_or leaves i [] ≡ root_in (joined (tree_nodes (block_hashes (blocks i))))
    own_leaf =
        get_or-map-range_with_len (λ j. tree_root (block_hashes (blocks j))) 0 g.total i i [] low (zero-add i)
        ∙ root_of_tree (joined (tree_nodes (block_hashes (blocks i)))) (block_hashes (blocks i)) (holds i)

    pub lengths : HaveLengths g (sections i)
    lengths = record {
      blocks = length-padded_blocks g i text valid size;
      unused = length-replicate (tree_size g) 0;
      ciphertext_tree = length-tree_section plain plain_leaves ∙ ap (λ (n : ℕ). (2 * 2 ^ height n - 1) * 32) length-plain;
      block_tree = length-tree_section (block_hashes (blocks i)) (block_leaves i) ∙ ap (λ (n : ℕ). (2 * 2 ^ height n - 1) * 32) (length-block_leaves i);
      share_hashes =
          length-entries (λ n. get_or (tree_nodes leaves) n []) (needed_numbers (height (length leaves)) i) (needed_hashes leaves i leaves_of_shares inside few)
          ∙ ap (λ (n : ℕ). n * 34) (length-needed_numbers (height (length leaves)) i ∙ ap (λ (t : ℕ). height t + 1) length-leaves);
      extension_block = short;
    }

    layout : IsShare g i (padded_share g text block i) (sections i)
    layout = record {
      text = refl;
      lengths = lengths;
      number = low;
      numbers = subst (λ (t : ℕ). CarriesNumbers (needed_numbers (height t) i) (share_hashes leaves i)) length-leaves
          (entries_carry (λ n. get_or (tree_nodes leaves) n []) (needed_numbers (height (length leaves)) i) (needed_hashes leaves i leaves_of_shares inside few));
    }

    lead : LeadsByEntries g.total (tree_root leaves) i (root_in (joined (tree_nodes (block_hashes (blocks i))))) (entries_in (share_hashes leaves i))
    lead =
        subst (λ (h : List ℕ). LeadsByEntries g.total (tree_root leaves) i h (entries_in (share_hashes leaves i))) own_leaf
        (subst (λ (t : ℕ). LeadsByEntries t (tree_root leaves) i (get_or leaves i []) (entries_in (share_hashes leaves i))) length-leaves
        (own_hashes_lead leaves i leaves_of_shares inside few))

-- such a share is sound where the extension block is the cap's, and tells the roots that are computed
pub padded_passes : (cap : VerifyCapValue) (block : List ℕ) (u : Contents) (text : List ℕ) → IsUebFor cap block u
    → length text ≡ rounded_up u.size u.needed_shares
    → tree_root (segment_hashes (plain_segments (geometry_by u) text)) ≡ u.crypttext_root_hash
    → tree_root (padded_leaves (geometry_by u) text) ≡ u.share_root_hash
    → (i : ℕ) → i < u.total_shares
    → IsSound cap i (padded_share (geometry_by u) text block i) u (padded_sections (geometry_by u) text block i)
padded_passes cap block u text ueb size ciphertext_root share_root i low =
    let g = geometry_by u in
    let s = padded_sections g text block i in
    let valid = is_geometry u ueb.grammar.contents in
    let short = ueb.grammar.short in
    let is = layout g text block valid size short i low in
    record {
      reads = record {
        located = locates_own g i (padded_share g text block i) s valid is;
        ueb = ueb;
        layout = is;
      };
      sections = record {
        unused = ap (λ (n : ℕ). replicate n 0) (sym (length-replicate (tree_size g) 0));
        ciphertext_tree =
            subst (λ (r : List ℕ). IsTreeWithRoot (segment_count g) r s.ciphertext_tree) ciphertext_root
            record {
              leaves = segment_hashes (plain_segments g text);
              count = length-plain g text block valid size short;
              holds = record { hashes = plain_leaves g text block valid size short; nodes = refl };
              root = refl;
            };
        block_tree = record {
          leaves = block_hashes (padded_blocks g i text);
          count = length-block_leaves g text block valid size short i;
          holds = holds g text block valid size short i;
        };
        share_hashes =
            subst (λ (r : List ℕ). LeadsByEntries u.total_shares r i (root_in s.block_tree) (entries_in s.share_hashes)) share_root
            (lead g text block valid size short i low);
        blocks = subst (λ (l : List (List ℕ)). HoldsTree s.block_tree (block_hashes l)) (sym (padded_blocks-again g i text valid size)) (holds g text block valid size short i);
      };
    }

-- two shares with one extension block have one length
same_length : (g : Geometry) (s t : Sections) → HaveLengths g s → HaveLengths g t → s.extension_block ≡ t.extension_block
    → length (share_bytes g s) ≡ length (share_bytes g t)
same_length g s t a b same =
    let number : length (spelled (layout_of g) (length s.extension_block)) ≡ length (spelled (layout_of g) (length t.extension_block)) =
    ap (λ (e : List ℕ). length (spelled (layout_of g) (length e))) same in
    simp length-append
    (omega (arith, number, ap length same, a.blocks, a.unused, a.ciphertext_tree, a.block_tree, a.share_hashes, b.blocks, b.unused, b.ciphertext_tree, b.block_tree, b.share_hashes))

header_short : (l : Layout) → (4 ≤ header_size l) × (header_size l ≤ 68)
header_short One = (omega arith, omega arith)
header_short Two = (omega arith, omega arith)

number_short : (l : Layout) (n : ℕ) → length (spelled l n) ≤ 8
number_short One n = omega arith
number_short Two n = omega arith

-- how long eight lists in a row are
eight_long : (a b c d e f g h : List ℕ) → length (a ++ b ++ c ++ d ++ e ++ f ++ g ++ h)
    ≡ length a + (length b + (length c + (length d + (length e + (length f + (length g + length h))))))
eight_long a b c d e f g h = simp length-append (omega arith)

not_long : (g : Geometry) (s : Sections) → IsGeometry g → HaveLengths g s
    → (1 ≤ length (share_bytes g s)) × (length (share_bytes g s) ≤ 2 ^ 41)
not_long g s is are =
    let b = have_bounds g is in
    let h = header_short (layout_of g) in
    let n = number_short (layout_of g) (length s.extension_block) in
    let all = eight_long (header g) s.blocks s.unused s.ciphertext_tree s.block_tree s.share_hashes (spelled (layout_of g) (length s.extension_block)) s.extension_block in
    let first = length-header (layout_of g) g in (
      omega (arith, all, first, h.0),
      omega (arith, all, first, h.1, n, are.blocks, are.unused, are.ciphertext_tree, are.block_tree, are.share_hashes, are.extension_block, b.few_blocks, b.few_nodes, b.few_hashes),
    )

-- all such shares pass, and have one length
pub padded_pass : (cap : VerifyCapValue) (block : List ℕ) (u : Contents) (text : List ℕ) (shares : List (List ℕ)) → IsUebFor cap block u
    → length text ≡ rounded_up u.size u.needed_shares
    → tree_root (segment_hashes (plain_segments (geometry_by u) text)) ≡ u.crypttext_root_hash
    → tree_root (padded_leaves (geometry_by u) text) ≡ u.share_root_hash
    → shares ≡ padded_shares (geometry_by u) text block → ArePassing cap shares
padded_pass cap block u text shares ueb size ciphertext_root share_root are =
    let g = geometry_by u in
    let total : u.total_shares ≡ cap.total = ueb.total in
    let valid = is_geometry u ueb.grammar.contents in
    let at : (i : ℕ) → i < cap.total → get_or shares i [] ≡ padded_share g text block i =
    λ i low.
    ap (λ (l : List (List ℕ)). get_or l i []) are
    ∙ get_or-map-range_with_len (padded_share g text block) 0 g.total i i [] (omega (arith, low, total)) (zero-add i) in
    record {
      count = ap length are ∙ length-map-range_with_len (padded_share g text block) 0 g.total ∙ total;
      sound = λ i low. (
        u,
        padded_sections g text block i,
        subst (λ (b : List ℕ). IsSound cap i b u (padded_sections g text block i)) (sym (at i low))
            (padded_passes cap block u text ueb size ciphertext_root share_root i (omega (arith, low, total))),
      );
      one_length = λ i j low other.
          ap length (at i low)
          ∙ same_length g (padded_sections g text block i) (padded_sections g text block j)
          (lengths g text block valid size ueb.grammar.short i (omega (arith, low, total)))
          (lengths g text block valid size ueb.grammar.short j (omega (arith, other, total))) refl
          ∙ sym (ap length (at j other));
      some = λ i low.
          subst (λ (b : List ℕ). 1 ≤ length b) (sym (at i low))
          (not_long g (padded_sections g text block i) valid (lengths g text block valid size ueb.grammar.short i (omega (arith, low, total)))).0;
      short = λ i low.
          subst (λ (b : List ℕ). length b ≤ 2 ^ 41) (sym (at i low))
          (not_long g (padded_sections g text block i) valid (lengths g text block valid size ueb.grammar.short i (omega (arith, low, total)))).1;
    }

pub regenerated_pass : RegeneratedPass
regenerated_pass cap numbers strings shares r =
    padded_pass cap r.extension_block r.u r.text shares r.give.ueb r.give.decoded.size r.ciphertext_root r.share_root r.are
