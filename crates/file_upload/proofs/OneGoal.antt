-- What is to be placed by what is kept of a file, and by its whole shares.
use Rattle.std.proofs.Common.{◌≡◌, ℕ, ◌+◌, ◌*◌, ◌<◌, List, [], ◌++◌, length, get_or, map, ap, sym, ◌∙◌, arith, zero-add}
use Rattle.std.specs.List.{range_with_len}
use Rattle.std.proofs.lemmas.List.{length-append}
use Rattle.std.proofs.lemmas.List.FromFn.{get_or-map-range_with_len}
use Rattle.aes_ctr.specs.CounterMode.{xored}
use Rattle.aes_ctr.proofs.StreamLemmas.{length-xored_from}
use Rattle.tagged_hash.specs.TaggedHash.{share_digest}
use Rattle.cap_text.specs.Cap.{verify_cap_of}
use Rattle.ueb.specs.Block.{ueb_text}
use Rattle.ueb.specs.Shape.{IsShape}
use Rattle.share_layout.specs.Geometry.{Geometry, hashes_size}
use Rattle.share_layout.specs.Layout.{header, header_size, layout_of, offsets_of, spelled, width}
use Rattle.share_layout.specs.Pieces.{segments_of}
use Rattle.share_layout.specs.Share.{HaveLengths, Sections, share_bytes}
use Rattle.share_layout.proofs.LayoutLemmas.{length-header, length-spelled}
use Rattle.file_encoding.specs.Encoding.{ciphertext_encoding, encoding_of, extension_block_contents, sections_of, share_of}
use Rattle.file_encoding.proofs.OwnShares.{geometry_is, lengths, written}
use Rattle.share_verify.specs.CapBlock.{geometry_by}
use Rattle.share_verify.proofs.GeometryOfUeb.{is_geometry}
use Rattle.file_encoding.specs.Padded.{padded_sections, padded_share, padded_shares}
use Rattle.file_encoding.proofs.RemadePassing.{lengths as own_lengths}
use Rattle.share_gathering.specs.KeptFile.{kept_length}
use Rattle.file_streaming.specs.Remade.{remade_by}
use Rattle.file_streaming.proofs.PaddedTexts.{data_same, layout_same, tree_same}
use Rattle.file_streaming.specs.Prepared.{geometry_for, key_for}
use Rattle.file_upload.specs.Laws.{GoalsAreOne}
use Rattle.file_upload.specs.RemadeStream.{RemadeGoalsAreOne}

-- how long eight lists in a row are
eight_long : (a b c d e f g h : List ℕ) → length (a ++ b ++ c ++ d ++ e ++ f ++ g ++ h)
    ≡ length a + (length b + (length c + (length d + (length e + (length f + (length g + length h))))))
eight_long a b c d e f g h = simp length-append (omega arith)

some_shares : (needed total size segment_size : ℕ) → IsShape needed total size segment_size → 0 < total
some_shares needed total size segment_size shape = omega (arith, shape.file.some_needed, shape.file.enough)

-- the length of a share, by that of its extension block
length-share : (g : Geometry) (s : Sections) → HaveLengths g s
    → length (share_bytes g s) ≡ (offsets_of g).extension_block + width (layout_of g) + length s.extension_block
length-share g s are =
    let all = eight_long (header g) s.blocks s.unused s.ciphertext_tree s.block_tree s.share_hashes (spelled (layout_of g) (length s.extension_block)) s.extension_block in
    omega (arith, all, length-header (layout_of g) g, length-spelled (layout_of g) (length s.extension_block), are.blocks, are.unused, are.ciphertext_tree, are.block_tree, are.share_hashes)

pub goals_are_one : GoalsAreOne
unfolding ciphertext_encoding encoding_of
goals_are_one file secret p shape =
    let g : Geometry = geometry_for file p in
    let key : List ℕ = key_for file secret p in
    let ciphertext : List ℕ = xored key file in
    let whole : length ciphertext ≡ g.size = length-xored_from key 0 file in
    let segments : List (List ℕ) = segments_of g ciphertext in
    let block : List ℕ = ueb_text (extension_block_contents g ciphertext segments) in
    let some : 0 < g.total = some_shares p.needed p.total (length file) g.segment_size shape in
    let s : Sections = sections_of g segments block 0 in
    let are = lengths g ciphertext (geometry_is g ciphertext shape whole) whole 0 some block (written g ciphertext shape whole).short in
    let here : get_or (map (share_of g segments block) (range_with_len 0 g.total)) 0 [] ≡ share_of g segments block 0 =
    get_or-map-range_with_len (share_of g segments block) 0 g.total 0 0 [] some (zero-add 0) in
    λ i. record {
      cap = verify_cap_of (ciphertext_encoding g key ciphertext).cap;
      digests = map share_digest (ciphertext_encoding g key ciphertext).shares;
      share_length = sym (ap length here ∙ length-share g s are) i;
      ahead = 1;
    }

-- the same of shares that are made anew
pub remade_goals_are_one : RemadeGoalsAreOne
remade_goals_are_one cap block u text is =
    let g : Geometry = geometry_by u in
    let valid = is_geometry u is.ueb.grammar.contents in
    let some : 0 < g.total = some_shares u.needed_shares u.total_shares u.size u.segment_size is.ueb.grammar.contents.shape in
    let s : Sections = padded_sections g text block 0 in
    let are = own_lengths g text block valid is.size is.ueb.grammar.short 0 some in
    let here : get_or (padded_shares g text block) 0 [] ≡ padded_share g text block 0 =
    get_or-map-range_with_len (padded_share g text block) 0 g.total 0 0 [] some (zero-add 0) in
    let long : kept_length (remade_by g cap block text).kept ≡ (offsets_of g).extension_block + width (layout_of g) + length block =
    λ i. header_size (layout_same g valid i) + data_same g valid i + 3 * tree_same g valid i + hashes_size g + width (layout_same g valid i) + length block in
    λ i. record {
      cap = cap;
      digests = map share_digest (padded_shares g text block);
      share_length = (long ∙ sym (ap length here ∙ length-share g s are)) i;
      ahead = 1;
    }
