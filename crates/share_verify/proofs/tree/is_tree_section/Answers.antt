use Rattle.std.proofs.Common.{length, ap, subst, sym, ◌∙◌}
use Rattle.merkle.specs.Nodes.{AreTreeNodes}
use Rattle.share_verify.proofs.SectionLemmas.{node_count, nodes_are, section_holds}
use Rattle.share_verify.proofs.tree.is_tree_section.Goals as goal

pub are_tree_nodes-requires-clause-nodes : goal.are_tree_nodes-requires-clause-nodes
are_tree_nodes-requires-clause-nodes c =
    ap length c.hashes_in.ensures ∙ node_count c.args.leaf_count c.args.section.now c.requires.long

pub returns : goal.returns
returns c =
    let n = c.args.leaf_count in
    let section = c.args.section.now in
    let long = c.requires.long in
    let decides = c.are_tree_nodes.ensures in (
      λ yes. section_holds n section long (subst (AreTreeNodes n) c.hashes_in.ensures (decides.0 yes)),
      λ holds. decides.1 (subst (AreTreeNodes n) (sym c.hashes_in.ensures) (nodes_are n section long holds)),
    )
