-- What is kept of a padded ciphertext whose segments were gathered.
use Rattle.std.proofs.Common.{◌≡◌, ℕ, ◌<◌, ◌≤◌, List, length, map, ap, subst, sym, ◌∙◌, arith}
use Rattle.std.specs.Prelude.{None}
use Rattle.std.specs.List.{range_with_len}
use Rattle.std.proofs.lemmas.List.{length-map}
use Rattle.std.proofs.lemmas.List.FromFn.{length-map-range_with_len}
use Rattle.std.proofs.lemmas.Simd.{map-map}
use Rattle.tagged_hash.specs.TaggedHash.{share_digest}
use Rattle.merkle.specs.Tree.{tree_nodes, tree_root}
use Rattle.cap_text.specs.Cap.{VerifyCapValue}
use Rattle.ueb.specs.Limits.{max_length}
use Rattle.ueb.specs.Shape.{Contents, rounded_up}
use Rattle.share_layout.specs.Geometry.{Geometry, IsGeometry, with_padding}
use Rattle.share_layout.proofs.GeometryLemmas.{is_padded}
use Rattle.share_verify.specs.CapBlock.{geometry_by}
use Rattle.share_verify.specs.Pieces.{block_hashes, joined}
use Rattle.file_encoding.specs.Blocks.{padded_blocks}
use Rattle.file_encoding.specs.Encoding.{share_hashes}
use Rattle.file_encoding.specs.Padded.{padded_leaves, padded_share, padded_shares}
use Rattle.file_encoding.proofs.RemadePassing.{lengths}
use Rattle.block_making.specs.declared.encoder.Encoder.{Encoder}
use Rattle.share_gathering.specs.Buffers.{AreBuffers}
use Rattle.share_gathering.specs.Kept.{IsKept}
use Rattle.share_gathering.specs.KeptFile.{KeptFile, kept_with}
use Rattle.file_streaming.specs.Remade.{remade_by}
use Rattle.file_streaming.specs.Remaking.{IsRemadeFinished}
use Rattle.share_gathering.specs.declared.finishing.Finished.{Finished}
use Rattle.share_gathering.specs.declared.buffers.Buffers.{Buffers}
use Rattle.file_streaming.proofs.PaddedTexts.{blocks_same, tree_same}

module _ (u : Contents) (valid : IsGeometry (geometry_by u))
    (text block : List ℕ) (long : length text ≡ rounded_up u.size u.needed_shares) (short : length block ≤ max_length) (f : Finished) (is : IsRemadeFinished u text block f) where
  abbrev g : Geometry
  g = geometry_by u

  -- what is kept, by a geometry
  abbrev pub kept_by : Geometry → KeptFile
  kept_by h = kept_with h None f.behind.extension_block.items f.behind.ciphertext_tree f.behind.block_trees.items f.digests.items

  pub kept_is : (cap : VerifyCapValue) → kept_by (with_padding g) ≡ (remade_by g cap block text).kept
  kept_is cap = λ i. record {
    geometry = with_padding g;
    key = None;
    extension_block = is.copied i;
    leaves = is.leaves i;
    block_leaves = is.block_leaves i;
    digests = is.digests i;
  }

  pub is_kept : (e : Encoder) (b : Buffers) → e.cipher ≡ None → e.code.k ≡ u.needed_shares → e.code.n ≡ u.total_shares
      → AreBuffers (with_padding g) b → IsKept (kept_by (with_padding g)) (map (λ (h : _). h.items) f.behind.share_hashes.items) e b
  is_kept e b cipher needed total buffers =
      let some : 0 < u.total_shares = omega (arith, valid.some_needed, valid.enough) in
      let own = lengths g text block valid long short 0 some in
      let roots : map tree_root f.behind.block_trees.items ≡ padded_leaves g text =
      ap (map tree_root) is.block_leaves ∙ map-map tree_root (λ i. block_hashes (padded_blocks g i text)) (range_with_len 0 g.total) in
      record {
        bytes = text;
        of = record {
          long = long;
          block_leaves = is.block_leaves ∙ λ i. map (λ j. block_hashes (sym (blocks_same g valid text long j) i)) (range_with_len 0 g.total);
        };
        valid = is_padded g valid;
        tree = ap (λ (l : List (List ℕ)). length (joined (tree_nodes l))) is.leaves ∙ own.ciphertext_tree ∙ sym (tree_same g valid);
        short = subst (λ (l : List ℕ). length l ≤ max_length) (sym is.copied) short;
        digests =
            ap length is.digests ∙ length-map (padded_shares g text block) share_digest ∙ length-map-range_with_len (padded_share g text block) 0 g.total;
        hashes_are = is.hashes ∙ ap (λ (l : List (List ℕ)). map (share_hashes l) (range_with_len 0 g.total)) (sym roots);
        cipher = cipher;
        needed = needed;
        total = total;
        buffers = buffers;
      }
