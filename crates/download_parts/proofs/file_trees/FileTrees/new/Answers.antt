use Rattle.std.proofs.Common.{ap, refl, ◌∙◌}
use Rattle.merkle.specs.Partial.{PartialState}
use Rattle.download_parts.proofs.file_trees.FileTrees.new.Goals as goal

pub invariant_of-result : goal.invariant_of-result
invariant_of-result c = record {
  valid = c.segment_count.ensures.valid;
  shares = record {
    sound = c.in_ok-tree_with.ensures.right;
    of_root = refl;
    leaves = ap (λ (p : PartialState). p.leaf_count) c.in_ok-tree_with.ensures.tree ∙ c.of-positions.ensures ∙ c.share_leaves.ensures.value;
  };
  ciphertext = record {
    sound = c.in_ok-tree_with-2.ensures.right;
    of_root = refl;
    leaves = ap (λ (p : PartialState). p.leaf_count) c.in_ok-tree_with-2.ensures.tree ∙ c.of-segments.ensures ∙ c.segment_count.ensures.value;
  };
  share_hashes = c.in_ok-tree_with.ensures.hashes;
  hashes = c.in_ok-tree_with-2.ensures.hashes;
}

pub returns-clause-right : goal.returns-clause-right
returns-clause-right c = invariant_of-result c
