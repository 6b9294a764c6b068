-- What is kept of a file that was read twice.
use Rattle.std.proofs.Common.{◌≡◌, ℕ, ◌<◌, ◌≤◌, ◌^◌, List, length, map, slice_index_or, refl, ap, sym, subst, ◌∙◌, arith}
use Rattle.std.specs.Prelude.{Some}
use Rattle.std.specs.List.{range_with_len}
use Rattle.std.proofs.lemmas.List.{length-map}
use Rattle.std.proofs.lemmas.List.FromFn.{length-map-range_with_len}
use Rattle.std.proofs.lemmas.Option.{slice_get-get_or}
use Rattle.std.proofs.lemmas.Simd.{map-map}
use Rattle.aes_ctr.specs.CounterMode.{xored}
use Rattle.aes_ctr.proofs.StreamLemmas.{length-xored_from}
use Rattle.tagged_hash.specs.TaggedHash.{share_digest, tagged_hash}
use Rattle.tagged_hash.specs.declared.tag.Tag.TheVariants.{Block, CiphertextSegment, ExtensionBlock}
use Rattle.merkle.specs.Tree.{tree_nodes}
use Rattle.zfec_code.specs.Shares.{Parameters as Code}
use Rattle.cap_text.specs.Cap.{ReadCapValue, read_cap_value}
use Rattle.ueb.specs.Block.{ueb_text}
use Rattle.ueb.specs.Limits.{max_length}
use Rattle.ueb.specs.Shape.{IsShape}
use Rattle.share_layout.specs.Geometry.{Geometry, IsGeometry, segment_count}
use Rattle.share_layout.specs.Pieces.{segments_of}
use Rattle.share_verify.specs.Pieces.{block_hashes, joined}
use Rattle.share_verify.proofs.GeometryOfUeb.{is_geometry}
use Rattle.proved_parts.proofs.Files.{length-pieces}
use Rattle.file_encoding.specs.Encoding.{block_of, blocks_of, ciphertext_encoding, extension_block_contents, share_hashes, share_of}
use Rattle.file_encoding.proofs.Making.{some_segments}
use Rattle.file_encoding.proofs.OwnShares.{lengths, valid, written}
use Rattle.file_encoding.proofs.Whole.{cap_is}
use Rattle.share_gathering.specs.Finishing.{HaveLeaves}
use Rattle.file_streaming.specs.Finishing.{IsFinished}
use Rattle.share_gathering.specs.Gathered.{IsGathered}
use Rattle.block_making.specs.Making.{ciphertext_from}
use Rattle.block_making.specs.declared.encoder.Encoder.{Encoder}
use Rattle.share_gathering.specs.Kept.{IsKept}
use Rattle.share_gathering.specs.KeptFile.{kept_with}
use Rattle.file_streaming.specs.Passes.{IsPassOf, gathered_of}
use Rattle.file_streaming.specs.Prepared.{PreparedFile, prepared_by, prepared_with}
use Rattle.share_gathering.specs.declared.finishing.Finished.{Finished}
use Rattle.file_streaming.specs.declared.passes.Passes.{Passes}
use Rattle.share_gathering.specs.declared.shares.ShareSoFar.{ShareSoFar}
use Rattle.file_streaming.proofs.Digests.{roots_are}
use Rattle.share_gathering.proofs.OneByOne.{one_by_one}

-- the digests of finished shares are those of the encoding's
digests_are : (g : Geometry) (key text : List ℕ) (f : Finished) → IsFinished g text f → f.digests.items ≡ map share_digest (ciphertext_encoding g key text).shares
unfolding ciphertext_encoding
digests_are g key text f is =
    let segments : List (List ℕ) = segments_of g text in
    let block : List ℕ = ueb_text (extension_block_contents g text segments) in
    is.digests ∙ ap (λ (b : List ℕ). map (λ i. share_digest (share_of g segments b i)) (range_with_len 0 g.total)) is.extension_block
    ∙ sym (map-map share_digest (share_of g segments block) (range_with_len 0 g.total))

-- what is kept of finished shares, with a cap
abbrev kept_of : Geometry → ReadCapValue → Finished → PreparedFile
kept_of g cap f = prepared_with g cap f.behind.extension_block.items f.behind.ciphertext_tree f.behind.block_trees.items f.digests.items

module _ (g : Geometry) (file : List ℕ) (p : Passes) (pass : IsPassOf g file p) (shape : IsShape g.needed g.total g.size g.segment_size) where
  abbrev text : List ℕ
  text = xored p.key file

  long : length text ≡ g.size
  long = length-xored_from p.key 0 file ∙ pass.long

  geometry_is : IsGeometry g
  geometry_is = is_geometry _ (valid g text shape long)

  shape_some : 0 < g.total
  shape_some = omega (arith, shape.file.some_needed, shape.file.enough)

  pub gathered_is : IsGathered g text (gathered_of g p.key file)
  gathered_is = one_by_one g p.key file geometry_is pass.long

  -- a leaf for each segment is a tree's
  have_leaves : (leaves : List (List ℕ)) → length leaves ≡ segment_count g → HaveLeaves leaves
  have_leaves leaves count = record {
    some = subst (λ n. 0 < n) (sym count) (some_segments g geometry_is);
    few = subst (λ n. n ≤ 2 ^ 20) (sym count) geometry_is.few;
  }

  segments_long : length (segments_of g text) ≡ segment_count g
  segments_long = length-pieces (segment_count g) g.segment_size text

  leaves_long : length p.leaves.items ≡ segment_count g
  leaves_long = ap length (pass.leaves ∙ gathered_is.leaves) ∙ length-map (segments_of g text) (tagged_hash CiphertextSegment) ∙ segments_long

  share_long : (k : ℕ) (d : ShareSoFar) → k < length p.shares.items → length (slice_index_or p.shares.items k d).leaves.items ≡ segment_count g
  share_long k d low =
      ap length (pass.shares k (slice_index_or p.shares.items k d) (slice_get-get_or p.shares.items k d low) ∙ gathered_is.block_leaves k)
      ∙ length-map (blocks_of g.needed k (segments_of g text)) (tagged_hash Block) ∙ length-map (segments_of g text) (block_of g.needed k) ∙ segments_long

  pub leaves_fit : HaveLeaves p.leaves.items
  leaves_fit = have_leaves p.leaves.items leaves_long

  pub all_fit : (k : ℕ) (d : ShareSoFar) → k < length p.shares.items → HaveLeaves (slice_index_or p.shares.items k d).leaves.items
  all_fit k d low = have_leaves (slice_index_or p.shares.items k d).leaves.items (share_long k d low)

  module _ (f : Finished) (is : IsFinished g text f) (ueb_hash : List ℕ) (cap : ReadCapValue) (hashed : ueb_hash ≡ tagged_hash ExtensionBlock f.behind.extension_block.items)
      (made : cap ≡ read_cap_value p.key ueb_hash g.needed g.total g.size) where
    pub kept_is : kept_of g cap f ≡ prepared_by g p.key text
    kept_is = λ i. record {
      geometry = g;
      cap = cap_is g p.key text f.behind.extension_block.items ueb_hash cap is.extension_block hashed made i;
      extension_block = is.extension_block i;
      leaves = is.leaves i;
      block_leaves = is.block_leaves i;
      digests = digests_are g p.key text f is i;
    }

    -- the same without the cap belongs to the file, and what is hidden to it
    module _ (e : Encoder) (code_is : e.code ≡ p.encoder.code) (cipher_is : e.cipher ≡ Some p.encoder.cipher) where
      key_is : e.cipher ≡ Some p.key
      key_is = cipher_is ∙ ap (λ (k : List ℕ). Some k) pass.cipher

      pub kept_key : e.cipher ≡ Some cap.key
      kept_key = key_is ∙ ap (λ (k : List ℕ). Some k) (sym (ap (λ (c : ReadCapValue). c.key) made))

      pub kept_too : IsKept (kept_with g e.cipher f.behind.extension_block.items f.behind.ciphertext_tree f.behind.block_trees.items f.digests.items)
          (map (λ (h : _). h.items) f.behind.share_hashes.items) e p.buffers
      kept_too =
          let own = lengths g text geometry_is long 0 shape_some (ueb_text (extension_block_contents g text (segments_of g text))) (written g text shape long).short in
          record {
            bytes = file;
            of = record {
              long = pass.long;
              block_leaves = is.block_leaves
                  ∙ λ i. map (λ j. block_hashes (blocks_of g.needed j (segments_of g (ciphertext_from (sym key_is i) 0 file)))) (range_with_len 0 g.total);
            };
            valid = geometry_is;
            tree = ap (λ (l : List (List ℕ)). length (joined (tree_nodes l))) is.leaves ∙ own.ciphertext_tree;
            short = subst (λ (b : List ℕ). length b ≤ max_length) (sym is.extension_block) (written g text shape long).short;
            digests = ap length is.digests ∙ length-map-range_with_len (λ i. share_digest (share_of g (segments_of g text) f.behind.extension_block.items i)) 0 g.total;
            hashes_are =
                is.hashes
                ∙ ap (λ (l : List (List ℕ)). map (share_hashes l) (range_with_len 0 g.total)) (sym (roots_are g text (gathered_of g p.key file) gathered_is f.behind.block_trees.items is.block_leaves));
            cipher = refl;
            needed = ap (λ (c : Code). c.k) code_is ∙ pass.needed;
            total = ap (λ (c : Code). c.n) code_is ∙ pass.total;
            buffers = pass.buffers;
          }
