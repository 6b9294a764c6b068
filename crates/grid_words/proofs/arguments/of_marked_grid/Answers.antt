use Rattle.std.proofs.lemmas.Result.{IfOk-weaker}
use Rattle.grid_words.proofs.Added.{conflicting}
use Rattle.grid_words.proofs.arguments.of_marked_grid.Goals as goal

pub returns : goal.returns
returns c = λ rule has.
    IfOk-weaker c.conflicts_with_all.result _ _ (λ arg adds. conflicting c.args.arg arg _ _ rule adds has) c.conflicts_with_all.ensures
