use Rattle.std.proofs.Common.{length, ap, subst, sym, ◌∙◌}
use Rattle.merkle.specs.Nodes.{AreTreeNodes}
use Rattle.share_verify.proofs.SectionLemmas.{node_count, nodes_are, section_holds}
use Rattle.share_verify.proofs.tree.is_tree_section_beside.Goals as goal

pub are_tree_nodes_beside-requires-clause-nodes : goal.are_tree_nodes_beside-requires-clause-nodes
are_tree_nodes_beside-requires-clause-nodes c =
    ap length c.hashes_in.ensures ∙ node_count c.args.leaf_count c.args.section.now c.requires.long

pub are_tree_nodes_beside-requires-clause-as_many : goal.are_tree_nodes_beside-requires-clause-as_many
are_tree_nodes_beside-requires-clause-as_many c =
    ap length c.hashes_in-2.ensures ∙ node_count c.args.leaf_count c.args.beside.now c.requires.as_long

pub are_tree_nodes_beside-requires-clause-beside : goal.are_tree_nodes_beside-requires-clause-beside
are_tree_nodes_beside-requires-clause-beside c =
    subst (AreTreeNodes c.args.leaf_count) (sym c.hashes_in-2.ensures) (nodes_are c.args.leaf_count c.args.beside.now c.requires.as_long c.requires.beside)

pub returns : goal.returns
returns c =
    let n = c.args.leaf_count in
    let section = c.args.section.now in
    let long = c.requires.long in
    let decides = c.are_tree_nodes_beside.ensures in (
      λ yes. section_holds n section long (subst (AreTreeNodes n) c.hashes_in.ensures (decides.0 yes)),
      λ holds. decides.1 (subst (AreTreeNodes n) (sym c.hashes_in.ensures) (nodes_are n section long holds)),
    )
