use Rattle.std.proofs.Common.{ℕ, List, subst, sym}
use Rattle.share_verify.specs.Leaves.{AreBlockHashes}
use Rattle.share_verify.proofs.SectionLemmas.{blocks_of_tree, tree_of_blocks}
use Rattle.share_verify.proofs.sections.is_tree_of.Goals as goal

pub returns : goal.returns
returns c = λ text begins.
    let n = c.args.block_count in
    let size = c.args.block_size in
    let section = c.args.section.now in
    let same = c.leaves_in.ensures.leaves in
    let each = λ (leaves : List (List ℕ)). AreBlockHashes leaves size text in (
      λ yes. tree_of_blocks n size text section c.requires.tree (subst each same ((c.are_leaves_of.ensures text begins).0 yes)),
      λ holds. (c.are_leaves_of.ensures text begins).1 (subst each (sym same) (blocks_of_tree n size text section holds)),
    )
