use Rattle.std.proofs.Common.{List, ℕ, [], length, get_or, ap, sym, ◌∙◌}
use Rattle.merkle.specs.Tree.{tree_nodes}
use Rattle.merkle.specs.Taking.{empty_leaves}
use Rattle.merkle.proofs.PaddingLemmas.{height_of_power, length-empty_leaves}
use Rattle.merkle.proofs.TreeLemmas.{tree_nodes_first}
use Rattle.merkle.proofs.padding.node_over_run.Goals as goal

pub fill-requires-clause-power : goal.fill-requires-clause-power
fill-requires-clause-power c =
    let first = c.args.first in
    let long = ap length c.empty_run-leaves.ensures ∙ length-empty_leaves first 128 in
    sym (height_of_power 7 _ long)

pub returns : goal.returns
returns c =
    let leaves = empty_leaves c.args.first 128 in
    ap (λ (l : List (List ℕ)). get_or l 0 []) (c.fill.ensures ∙ ap tree_nodes c.empty_run-leaves.ensures)
    ∙ tree_nodes_first leaves []
