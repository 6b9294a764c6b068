-- The parts that the encoder writes are those of the file's encoding.
use Rattle.std.proofs.Common.{◌≡◌, ℕ, suc, ◌+◌, ◌-◌, ◌*◌, ◌<◌, ◌≤◌, List, ◌++◌, length, map, ap, sym, ◌∙◌, arith}
use Rattle.std.specs.List.{range_with_len}
use Rattle.std.proofs.lemmas.List.{append_assoc}
use Rattle.std.proofs.lemmas.Simd.{map-map}
use Rattle.std.proofs.lemmas.Grind.{div_ceil_times}
use Rattle.std.proofs.lemmas.Nat.Gcd.{dvd_of_mod-eq-zero}
use Rattle.tagged_hash.specs.TaggedHash.{tagged_hash}
use Rattle.tagged_hash.specs.declared.tag.Tag.TheVariants.{ExtensionBlock}
use Rattle.merkle.specs.Tree.{tree_nodes, tree_root}
use Rattle.aes_ctr.specs.CounterMode.{xored}
use Rattle.tagged_hash.specs.ConvergentKey.{convergent_key_of}
use Rattle.cap_text.specs.Cap.{ReadCapValue, read_cap_value}
use Rattle.ueb.specs.Block.{ueb_text}
use Rattle.share_layout.specs.Geometry.{Geometry, IsGeometry, geometry_of, segment_count}
use Rattle.share_layout.specs.Layout.{layout_of, spelled}
use Rattle.share_layout.specs.Writing.{ending}
use Rattle.share_verify.specs.Pieces.{block_hashes}
use Rattle.share_layout.specs.Pieces.{pieces, segments_of}
use Rattle.file_encoding.specs.Encoding.{blocks_of, Parameters, ciphertext_encoding, encoding_of, extension_block_contents, padded_segment, share_hashes, share_leaves, share_of}
use Rattle.proved_parts.specs.FileOf.{segment_hashes}
use Rattle.file_encoding.specs.Blocks.{draft_of, finished, padded_block, padded_blocks, share_beginning}
use Rattle.file_encoding.specs.Drafts.{DraftState}
use Rattle.file_encoding.proofs.Padding.{pieces-padded}

-- the encoder's blocks are those of the segments
pub blocks_are : (g : Geometry) (text : List ℕ) (i : ℕ) → IsGeometry g → length text ≡ g.size
    → padded_blocks g i (padded_segment g.needed text) ≡ blocks_of g.needed i (segments_of g text)
blocks_are g text i valid size =
    let bounds = div_ceil_times g.size g.segment_size valid.some_segment in
    let count : ℕ = segment_count g in
    let before : ℕ = count - 1 in
    let some : 0 < count = (let none : count ≡ 0 → ⊥ = λ e. (let b : g.size ≤ count * g.segment_size = bounds.0 in let z : count * g.segment_size ≡ 0 = ap (λ n. n * g.segment_size) e ∙ (let nothing : 0 * g.segment_size ≡ 0 = omega arith in nothing) in omega (arith, b, z, valid.some)) in omega (arith, none)) in
    let one_more : count ≡ suc before = omega (arith, some) in
    let product : count * g.segment_size ≡ before * g.segment_size + g.segment_size = ap (λ n. n * g.segment_size) one_more ∙ omega arith in
    let padded = pieces-padded g.needed g.segment_size before text valid.some_needed (dvd_of_mod-eq-zero g.needed valid.multiple)
    (omega (arith, size, product, bounds.1)) (omega (arith, size, product, bounds.0)) in
    (λ p. map (padded_block g.needed i) (pieces (one_more p) g.segment_size (padded_segment g.needed text)))
    ∙ ap (map (padded_block g.needed i)) padded
    ∙ map-map (padded_block g.needed i) (padded_segment g.needed) (pieces (suc before) g.segment_size text)
    ∙ (λ p. blocks_of g.needed i (pieces (sym one_more p) g.segment_size text))

-- the roots are the leaves of the share tree
pub roots_are : (g : Geometry) (text : List ℕ) → IsGeometry g → length text ≡ g.size
    → map (λ i. tree_root (block_hashes (padded_blocks g i (padded_segment g.needed text)))) (range_with_len 0 g.total)
    ≡ share_leaves g (segments_of g text)
roots_are g text valid size = λ p. map (λ i. tree_root (block_hashes (blocks_are g text i valid size p))) (range_with_len 0 g.total)

-- a draft with the rest is the share
pub share_is : (g : Geometry) (text extension_block : List ℕ) (i : ℕ) → IsGeometry g → length text ≡ g.size
    → finished (share_leaves g (segments_of g text)) extension_block
    (draft_of g (padded_segment g.needed text) (tree_nodes (segment_hashes (segments_of g text))) i)
    ≡ share_of g (segments_of g text) extension_block i
share_is g text extension_block i valid size =
    let segments : List (List ℕ) = segments_of g text in
    let leaves : List (List ℕ) = share_leaves g segments in
    (λ p. share_beginning g (blocks_are g text i valid size p) (tree_nodes (segment_hashes segments)) ++ share_hashes leaves i ++ ending g extension_block)
    ∙ sym (append_assoc (share_beginning g (blocks_of g.needed i segments) (tree_nodes (segment_hashes segments)) ++ share_hashes leaves i)
    (spelled (layout_of g) (length extension_block)) extension_block)

-- what the encoder has of a ciphertext when its shares are finished
pub record Finished (g : Geometry) (text extension_block : List ℕ) (own_leaves : List (List ℕ)) (drafts : List DraftState) (shares : List (List ℕ)) : Type 0 where
  pub leaves : own_leaves ≡ share_leaves g (segments_of g text)
  pub begun : drafts ≡ map (draft_of g (padded_segment g.needed text) (tree_nodes (segment_hashes (segments_of g text)))) (range_with_len 0 g.total)
  pub block : extension_block ≡ ueb_text (extension_block_contents g text (segments_of g text))
  pub all : shares ≡ map (finished own_leaves extension_block) drafts

-- then they are the encoding's
pub shares_are : (g : Geometry) (key text extension_block : List ℕ) (leaves : List (List ℕ)) (drafts : List DraftState) (shares : List (List ℕ))
    → IsGeometry g → length text ≡ g.size → Finished g text extension_block leaves drafts shares → shares ≡ (ciphertext_encoding g key text).shares
unfolding ciphertext_encoding
shares_are g key text extension_block leaves drafts shares valid size done =
    let segments : List (List ℕ) = segments_of g text in
    let begin : ℕ → DraftState = draft_of g (padded_segment g.needed text) (tree_nodes (segment_hashes segments)) in
    done.all
    ∙ (λ p. map (finished (done.leaves p) extension_block) (done.begun p))
    ∙ map-map (finished (share_leaves g segments) extension_block) begin (range_with_len 0 g.total)
    ∙ (λ p. map (λ i. share_is g text extension_block i valid size p) (range_with_len 0 g.total))
    ∙ ap (λ b. map (share_of g segments b) (range_with_len 0 g.total)) done.block

pub cap_is : (g : Geometry) (key text extension_block ueb_hash : List ℕ) (cap : ReadCapValue)
    → extension_block ≡ ueb_text (extension_block_contents g text (segments_of g text)) → ueb_hash ≡ tagged_hash ExtensionBlock extension_block
    → cap ≡ read_cap_value key ueb_hash g.needed g.total g.size
    → cap ≡ (ciphertext_encoding g key text).cap
unfolding ciphertext_encoding
cap_is g key text extension_block ueb_hash cap block hashed is =
    is ∙ ap (λ h. read_cap_value key h g.needed g.total g.size) (hashed ∙ ap (tagged_hash ExtensionBlock) block)

-- the encoding of a file is that of its ciphertext
pub encoding_from : (file secret : List ℕ) (p : Parameters) (g : Geometry) (key text : List ℕ)
    → g ≡ geometry_of (length file) p.needed p.total p.max_segment
    → key ≡ convergent_key_of p.needed p.total g.segment_size secret file
    → text ≡ xored key file
    → ciphertext_encoding g key text ≡ encoding_of file secret p
unfolding encoding_of
encoding_from file secret p g key text is hashed encrypted =
    let keyed : key ≡ convergent_key_of p.needed p.total (geometry_of (length file) p.needed p.total p.max_segment).segment_size secret file =
    hashed ∙ ap (λ (h : Geometry). convergent_key_of p.needed p.total h.segment_size secret file) is in
    ap (ciphertext_encoding g key) encrypted ∙ λ i. ciphertext_encoding (is i) (keyed i) (xored (keyed i) file)
