use Rattle.std.proofs.Common.{sym, ◌∙◌}
use Rattle.std.proofs.lemmas.Bool.{true≢false}
use Rattle.merkle.proofs.NodesLemmas.{pairs_are, tree_nodes_are}
use Rattle.merkle.proofs.OwnRows.{padded_row, tree_has_padding}
use Rattle.merkle.proofs.nodes.are_tree_nodes_beside.Goals as goal

pub has_padding-requires-clause-padding : goal.has_padding-requires-clause-padding
has_padding-requires-clause-padding c = tree_has_padding c.args.leaf_count c.args.beside.now c.requires.as_many c.requires.beside

pub are_own_pairs-requires-clause-padding : goal.are_own_pairs-requires-clause-padding
are_own_pairs-requires-clause-padding c = c.has_padding.ensures.0 c.if-has_padding.true

pub returns-then-has_padding : goal.returns-then-has_padding
returns-then-has_padding c =
    let n = c.args.leaf_count in
    let nodes = c.args.nodes.now in
    let padding = c.has_padding.ensures.0 c.if-has_padding.true in
    let pairs = c.are_own_pairs.ensures in (
      λ yes. tree_nodes_are n nodes c.requires.nodes (pairs.0 yes) (padded_row n nodes c.requires.nodes padding),
      λ are. pairs.1 (pairs_are n nodes c.requires.nodes are),
    )

pub returns-else-has_padding : goal.returns-else-has_padding
returns-else-has_padding c = (
  λ yes. absurd (true≢false (sym yes ∙ c.if-has_padding.false)),
  λ are. c.has_padding.ensures.1 (tree_has_padding c.args.leaf_count c.args.nodes.now c.requires.nodes are),
)
