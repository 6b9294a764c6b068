use Rattle.std.proofs.lemmas.Result.{IfOk-weaker}
use Rattle.grid_words.proofs.Added.{conflicting}
use Rattle.grid_words.proofs.catalogue_arguments.looked_at_caps.Goals as goal

pub returns : goal.returns
returns c =
    IfOk-weaker c.conflicts_with.result _ _ (λ arg adds. conflicting c.option.result arg _ _ _ adds c.option.ensures) c.conflicts_with.ensures
