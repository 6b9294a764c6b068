use Rattle.std.proofs.Common.{length, ap, ◌∙◌}
use Rattle.share_verify.proofs.SectionLemmas.{node_count}
use Rattle.share_verify.proofs.tree.leaves_in.Goals as goal

pub first_leaf-first-requires : goal.first_leaf-first-requires
first_leaf-first-requires c = ap length c.hashes_in-nodes.ensures ∙ node_count c.args.leaf_count c.args.section.now c.requires
