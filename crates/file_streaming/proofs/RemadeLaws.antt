-- Laws of shares that are made anew from a padded ciphertext.
use Rattle.std.proofs.Common.{◌≡◌, ◌⊎◌, ℕ, ◌<◌, List, [], ◌++◌, length, take, drop, map, slice_index_or, inl, inr, refl, ap, sym, subst, ◌∙◌, zero-add}
use Rattle.std.specs.List.{range_with_len}
use Rattle.std.proofs.lemmas.List.FromFn.{get_or-map-range_with_len}
use Rattle.std.proofs.lemmas.Simd.{map-map}
use Rattle.merkle.specs.Tree.{tree_root}
use Rattle.cap_text.specs.Cap.{VerifyCapValue}
use Rattle.ueb.specs.Shape.{Contents}
use Rattle.share_layout.specs.Geometry.{Geometry, share_data_size, with_padding}
use Rattle.share_layout.specs.Layout.{header}
use Rattle.share_verify.specs.CapBlock.{geometry_by}
use Rattle.share_verify.specs.Pieces.{block_hashes, joined}
use Rattle.share_verify.proofs.GeometryOfUeb.{is_geometry}
use Rattle.proved_parts.specs.FileOf.{segment_hashes}
use Rattle.file_encoding.specs.Blocks.{padded_blocks}
use Rattle.file_encoding.specs.Padded.{padded_share, padded_shares, plain_segments}
use Rattle.file_encoding.proofs.RemadePassing.{padded_pass}
use Rattle.share_gathering.specs.Gathered.{behind_blocks}
use Rattle.share_gathering.specs.KeptFile.{GivesKept, IsKeptOf, KeptFile, kept_leaves, kept_share}
use Rattle.share_gathering.specs.Clash.{HaveClash}
use Rattle.file_streaming.specs.Remade.{IsTextOf, PiecesAreRemade, RemadeFile, TextsPass, remade_by}
use Rattle.share_gathering.proofs.Blocks.{blocks_or_clash}
use Rattle.file_streaming.proofs.PaddedTexts.{blocks_same, padded_in_two}

module _ (cap : VerifyCapValue) (extension_block : List ℕ) (u : Contents) (text : List ℕ) (is : IsTextOf cap extension_block u text) (share : ℕ) (there : share < u.total_shares) where
  abbrev g : Geometry
  g = geometry_by u

  abbrev kept : KeptFile
  kept = (remade_by g cap extension_block text).kept

  -- the leaves that are kept of the share
  leaves_are : kept_leaves kept share ≡ block_hashes (padded_blocks g share text)
  leaves_are = get_or-map-range_with_len (λ i. block_hashes (padded_blocks g i text)) 0 g.total share share [] there (zero-add share)

  -- the share with its own blocks is that of the text
  share_is : kept_share kept (padded_blocks g share text) share ≡ slice_index_or (padded_shares g text extension_block) share []
  share_is =
      (λ p. header (with_padding g) ++ joined (padded_blocks g share text) ++ behind_blocks (with_padding g) (segment_hashes (plain_segments g text)) (leaves_are p)
      (map-map tree_root (λ i. block_hashes (padded_blocks g i text)) (range_with_len 0 g.total) p) extension_block share)
      ∙ sym (padded_in_two g (is_geometry u is.ueb.grammar.contents) text is.size extension_block share)
      ∙ sym (get_or-map-range_with_len (padded_share g text extension_block) 0 g.total share share [] there (zero-add share))

  right : (offset : ℕ) (bytes : List ℕ) → (given : GivesKept kept share offset bytes)
      → (bytes ≡ take (length bytes) (drop offset (slice_index_or (padded_shares g text extension_block) share []))) ⊎ HaveClash (padded_blocks g share text) given.blocks
  right offset bytes given =
      elim (blocks_or_clash (padded_blocks g share text) given.blocks (given.hashes ∙ leaves_are)) [
        | inl own ↦ inl (given.piece ∙ ap (λ (bs : List (List ℕ)). take (length bytes) (drop offset (kept_share kept bs share))) own
            ∙ ap (λ (s : List ℕ). take (length bytes) (drop offset s)) share_is)
        | inr clash ↦ inr clash
      ]

pub pieces_are_remade : PiecesAreRemade
pieces_are_remade cap extension_block u text remade share offset bytes is same there given =
    right cap extension_block u text is share there offset bytes record {
      blocks = given.blocks;
      hashes = given.hashes ∙ ap (λ (r : RemadeFile). kept_leaves r.kept share) same;
      size = given.size ∙ ap (λ (r : RemadeFile). share_data_size r.kept.geometry) same;
      piece = given.piece ∙ ap (λ (r : RemadeFile). take (length bytes) (drop offset (kept_share r.kept given.blocks share))) same;
    }

pub texts_pass : TextsPass
texts_pass cap extension_block u text is =
    padded_pass cap extension_block u text (padded_shares (geometry_by u) text extension_block) is.ueb is.size is.ciphertext_root is.share_root refl

-- what is kept of a text for its shares is kept of its bytes
pub kept_of_text : (cap : VerifyCapValue) (extension_block : List ℕ) (u : Contents) (text : List ℕ) (r : RemadeFile) → IsTextOf cap extension_block u text
    → r ≡ remade_by (geometry_by u) cap extension_block text → IsKeptOf r.kept text
kept_of_text cap extension_block u text r is same =
    let g : Geometry = geometry_by u in
    subst (λ (s : RemadeFile). IsKeptOf s.kept text) (sym same) record {
      long = is.size;
      block_leaves =
          λ i. map (λ j. block_hashes (sym (blocks_same g (is_geometry u is.ueb.grammar.contents) text is.size j) i)) (range_with_len 0 g.total);
    }
