use Rattle.std.proofs.lemmas.Result.{IfOk-weaker}
use Rattle.grid_words.proofs.Added.{requiring}
use Rattle.grid_words.proofs.catalogue_arguments.overwrite.Goals as goal

pub returns : goal.returns
returns c =
    IfOk-weaker c.requires_arg.result _ _ (λ arg adds. requiring c.flag.result arg _ _ adds c.flag.ensures) c.requires_arg.ensures
