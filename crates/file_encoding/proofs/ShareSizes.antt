-- How long the shares of a file's encoding are.
use Rattle.std.proofs.Common.{◌≡◌, ℕ, ◌+◌, ◌^◌, ◌≤◌, List, [], ◌++◌, length, get_or, map, subst, sym, arith, zero-add}
use Rattle.std.specs.List.{range_with_len}
use Rattle.std.proofs.lemmas.List.{length-append}
use Rattle.std.proofs.lemmas.List.FromFn.{get_or-map-range_with_len}
use Rattle.aes_ctr.specs.CounterMode.{xored}
use Rattle.aes_ctr.proofs.StreamLemmas.{length-xored_from}
use Rattle.tagged_hash.specs.ConvergentKey.{convergent_key_of}
use Rattle.ueb.specs.Block.{ueb_text}
use Rattle.share_layout.specs.declared.layout.Layout.{Layout}
use Rattle.share_layout.specs.declared.layout.Layout.TheVariants.{One, Two}
use Rattle.share_layout.specs.Geometry.{Geometry, geometry_of, IsGeometry}
use Rattle.share_layout.specs.Layout.{header, header_size, layout_of, spelled}
use Rattle.share_layout.specs.Pieces.{segments_of}
use Rattle.share_layout.specs.Share.{HaveLengths, Sections, share_bytes}
use Rattle.share_layout.proofs.LawLemmas.{have_bounds}
use Rattle.share_layout.proofs.LayoutLemmas.{length-header}
use Rattle.file_encoding.specs.Encoding.{ciphertext_encoding, encoding_of, extension_block_contents, sections_of, share_of}
use Rattle.file_encoding.specs.Laws.{SharesAreNotLong}
use Rattle.file_encoding.proofs.OwnShares.{geometry_is, lengths, written}

header_short : (l : Layout) → (4 ≤ header_size l) × (header_size l ≤ 68)
header_short One = (omega arith, omega arith)
header_short Two = (omega arith, omega arith)

number_short : (l : Layout) (n : ℕ) → length (spelled l n) ≤ 8
number_short One n = omega arith
number_short Two n = omega arith

-- how long eight lists in a row are
eight_long : (a b c d e f g h : List ℕ) → length (a ++ b ++ c ++ d ++ e ++ f ++ g ++ h)
    ≡ length a + (length b + (length c + (length d + (length e + (length f + (length g + length h))))))
eight_long a b c d e f g h = simp length-append (omega arith)

not_long : (g : Geometry) (s : Sections) → IsGeometry g → HaveLengths g s
    → (1 ≤ length (share_bytes g s)) × (length (share_bytes g s) ≤ 2 ^ 41)
not_long g s is are =
    let b = have_bounds g is in
    let h = header_short (layout_of g) in
    let n = number_short (layout_of g) (length s.extension_block) in
    let all = eight_long (header g) s.blocks s.unused s.ciphertext_tree s.block_tree s.share_hashes (spelled (layout_of g) (length s.extension_block)) s.extension_block in
    let first = length-header (layout_of g) g in (
      omega (arith, all, first, h.0),
      omega (arith, all, first, h.1, n, are.blocks, are.unused, are.ciphertext_tree, are.block_tree, are.share_hashes, are.extension_block, b.few_blocks, b.few_nodes, b.few_hashes),
    )

-- no share of a file's encoding is long
pub shares_are_not_long : SharesAreNotLong
unfolding ciphertext_encoding encoding_of
shares_are_not_long file secret p shape i low =
    let g = geometry_of (length file) p.needed p.total p.max_segment in
    let key = convergent_key_of p.needed p.total g.segment_size secret file in
    let ciphertext = xored key file in
    let whole : length ciphertext ≡ g.size = length-xored_from key 0 file in
    let segments = segments_of g ciphertext in
    let block = ueb_text (extension_block_contents g ciphertext segments) in
    let short = (written g ciphertext shape whole).short in
    let at : get_or (map (share_of g segments block) (range_with_len 0 g.total)) i [] ≡ share_of g segments block i =
    get_or-map-range_with_len (share_of g segments block) 0 g.total i i [] low (zero-add i) in
    subst (λ (share : List ℕ). (1 ≤ length share) × (length share ≤ 2 ^ 41)) (sym at)
    (not_long g (sections_of g segments block i) (geometry_is g ciphertext shape whole) (lengths g ciphertext (geometry_is g ciphertext shape whole) whole i low block short))
