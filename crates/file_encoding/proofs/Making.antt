-- The shares that are made of a padded text.
use Rattle.std.proofs.Common.{◌≡◌, ℕ, ◌*◌, ◌<◌, ◌≤◌, List, ◌++◌, length, map, get_or, All, inl, inr, ap, sym, ◌∙◌, arith}
use Rattle.std.specs.List.{range_with_len}
use Rattle.std.proofs.lemmas.Bool.{cases_lt}
use Rattle.std.proofs.lemmas.Grind.{div_ceil_times}
use Rattle.std.proofs.lemmas.List.{append_assoc, get_or-map, length-map}
use Rattle.std.proofs.lemmas.List.FromFn.{get_or-map-range_with_len, length-map-range_with_len}
use Rattle.std.proofs.lemmas.Simd.{map-map}
use Rattle.merkle.specs.Tree.{tree_nodes}
use Rattle.share_layout.specs.Geometry.{Geometry, IsGeometry, segment_count}
use Rattle.share_layout.specs.Layout.{layout_of, spelled}
use Rattle.share_layout.specs.Writing.{ending}
use Rattle.cap_text.specs.Cap.{VerifyCapValue}
use Rattle.share_verify.specs.CapBlock.{geometry_by}
use Rattle.proved_parts.specs.FileOf.{segment_hashes}
use Rattle.file_encoding.specs.Regenerated.{AreRegenerated}
use Rattle.file_encoding.specs.BegunFiles.{AreBegun}
use Rattle.file_encoding.specs.Blocks.{draft_of, finished, padded_blocks, share_beginning}
use Rattle.file_encoding.specs.Drafts.{DraftState}
use Rattle.file_encoding.specs.Encoding.{share_hashes}
use Rattle.file_encoding.specs.Padded.{padded_leaves, padded_share, padded_shares, plain_segments}
use Rattle.file_encoding.specs.declared.draft.Begun.{Begun}

-- a file has a segment
pub some_segments : (g : Geometry) → IsGeometry g → 0 < segment_count g
some_segments g valid =
    let reach : g.size ≤ segment_count g * g.segment_size = (div_ceil_times g.size g.segment_size valid.some_segment).0 in
    elim (cases_lt 0 (segment_count g)) [
      | inl some ↦ some
      | inr none ↦ absurd (let is : segment_count g ≡ 0 = omega (arith, none) in
          let product : segment_count g * g.segment_size ≡ 0 * g.segment_size = ap (λ n. n * g.segment_size) is in
          let nothing : 0 * g.segment_size ≡ 0 = omega arith in omega (arith, reach, product, nothing, valid.some))
    ]

module _ (g : Geometry) (text : List ℕ) (nodes : List (List ℕ)) (begun : List Begun) (are : AreBegun g text nodes g.total begun) where
  pub count : length begun ≡ g.total
  count = sym (length-map begun (λ (b : Begun). b.draft)) ∙ ap length are.drafts ∙ length-map-range_with_len (draft_of g text nodes) 0 g.total

  pub total_is : (n : ℕ) → g.total ≡ n → All (λ (b : Begun). b.draft.geometry.total ≡ n) begun
  total_is n same k d below =
      let draft : ℕ → DraftState = draft_of g text nodes in
      ap (λ (w : DraftState). w.geometry.total)
      (sym (get_or-map (λ (b : Begun). b.draft) begun k d (draft 0) below) ∙ ap (λ (ws : List DraftState). get_or ws k (draft 0)) are.drafts
      ∙ get_or-map-range_with_len draft 0 g.total k k (draft 0) (omega (arith, below, count)) (omega arith))
      ∙ same

  module _ (tree : List (List ℕ)) (roots : tree ≡ map (λ (b : Begun). b.root) begun) where
    pub tree_is : tree ≡ padded_leaves g text
    tree_is = roots ∙ are.roots

    pub length-tree : length tree ≡ g.total
    length-tree = ap length roots ∙ length-map begun (λ (b : Begun). b.root) ∙ count

    share_is : (block : List ℕ) (i : ℕ) → nodes ≡ tree_nodes (segment_hashes (plain_segments g text)) → finished tree block (draft_of g text nodes i) ≡ padded_share g text block i
    share_is block i plain =
        (λ p. share_beginning g (padded_blocks g i text) (plain p) ++ share_hashes (tree_is p) i ++ ending g block)
        ∙ sym (append_assoc (share_beginning g (padded_blocks g i text) (tree_nodes (segment_hashes (plain_segments g text))) ++ share_hashes (padded_leaves g text) i)
        (spelled (layout_of g) (length block)) block)

    pub shares_are : (block : List ℕ) (shares : List (List ℕ)) → nodes ≡ tree_nodes (segment_hashes (plain_segments g text))
        → shares ≡ map (λ (b : Begun). finished tree block b.draft) begun → shares ≡ padded_shares g text block
    shares_are block shares plain all =
        all ∙ sym (map-map (finished tree block) (λ (b : Begun). b.draft) begun)
        ∙ ap (map (finished tree block)) are.drafts
        ∙ map-map (finished tree block) (draft_of g text nodes) (range_with_len 0 g.total)
        ∙ (λ p. map (λ i. share_is block i plain p) (range_with_len 0 g.total))

-- all shares of a file are made
pub length-regenerated : (cap : VerifyCapValue) (numbers : List ℕ) (strings shares : List (List ℕ)) → AreRegenerated cap numbers strings shares → length shares ≡ cap.total
length-regenerated cap numbers strings shares r =
    ap length r.are ∙ length-map-range_with_len (padded_share (geometry_by r.u) r.text r.extension_block) 0 r.u.total_shares ∙ r.give.ueb.total
