use Rattle.std.proofs.Common.{◌≡◌, ◌+◌, List, [], ℕ, ◌∷◌, ◌++◌, map, ap, sym, ◌∙◌, zero-add}
use Rattle.std.proofs.lemmas.List.{map_push}
use Rattle.std.proofs.lemmas.List.FromFn.{map-range_with_len_more}
use Rattle.merkle.specs.Tree.{tree_root}
use Rattle.share_layout.specs.Geometry.{Geometry}
use Rattle.share_verify.specs.Pieces.{block_hashes}
use Rattle.file_encoding.specs.Blocks.{draft_of, padded_blocks}
use Rattle.file_encoding.specs.declared.draft.Begun.{Begun}
use Rattle.file_encoding.specs.BegunFiles.{AreBegun}
use Rattle.file_encoding.proofs.shares.begin_shares.Goals as goal

-- one share more
one_more : (g : Geometry) (text : List ℕ) (nodes : List (List ℕ)) (begun after : List Begun) (count : ℕ) (share : Begun)
    → AreBegun g text nodes count begun
    → after ≡ begun ++ share ∷ []
    → share.draft ≡ draft_of g text nodes count → share.root ≡ tree_root (block_hashes (padded_blocks g count text))
    → AreBegun g text nodes (count + 1) after
one_more g text nodes begun after count share have pushed is leads = record {
  drafts =
      ap (λ (bs : List Begun). map (λ (b : Begun). b.draft) bs) pushed ∙ map_push (λ (b : Begun). b.draft) begun share
      ∙ (λ k. have.drafts k ++ is k ∷ []) ∙ sym (map-range_with_len_more (draft_of g text nodes) 0 count count (zero-add count));
  roots =
      ap (λ (bs : List Begun). map (λ (b : Begun). b.root) bs) pushed ∙ map_push (λ (b : Begun). b.root) begun share
      ∙ (λ k. have.roots k ++ leads k ∷ []) ∙ sym (map-range_with_len_more (λ i. tree_root (block_hashes (padded_blocks g i text))) 0 count count (zero-add count));
}

pub loop-number-preserved : goal.loop-number-preserved
loop-number-preserved c =
    one_more _ _ _ c.loop-number.begun.items c.push.new.self.items c.loop-number.number c.in_ok-begin_share.field-0
    c.loop-number.invariant c.in_ok-push.ensures.items c.in_ok-begin_share.ensures.draft c.in_ok-begin_share.ensures.root
