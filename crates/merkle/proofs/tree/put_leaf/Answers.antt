use Rattle.std.proofs.Common.{[], length, sym, ◌∙◌, arith}
use Rattle.std.proofs.lemmas.List.{get_or-set_same}
use Rattle.merkle.proofs.TreeLemmas.{padded_to-empty, padded_to-leaf}
use Rattle.merkle.proofs.tree.put_leaf.Goals as goal
use Rattle.merkle.proofs.tree.put_leaf.Goals.{then-at-leaves, else-at-leaves}

pub returns-clause-made : goal.returns-clause-made
returns-clause-made c =
    let leaves = c.args.leaves.now in
    get_or-set_same c.args.row.now c.args.at c.if-at-leaves.leaf [] c.requires.inside
    ∙ (elim c.if-at-leaves.branch [
      | then-at-leaves w ↦ w.leaf-is ∙ sym (padded_to-leaf (length c.args.row.now) leaves c.args.at w.if-at-leaves.true)
      | else-at-leaves w ↦ w.leaf-is ∙ w.empty_leaf-leaf.ensures ∙ sym (padded_to-empty (length c.args.row.now) leaves c.args.at (omega arith) c.requires.inside)
    ])
