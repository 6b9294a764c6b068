use Rattle.std.proofs.lemmas.Result.{IfOk-weaker}
use Rattle.grid_words.proofs.Added.{requiring}
use Rattle.grid_words.proofs.verify_arguments.verified_below.Goals as goal

pub returns : goal.returns
returns c =
    IfOk-weaker c.requires_arg.result _ _ (λ arg adds. requiring c.option.result arg _ _ adds c.option.ensures) c.requires_arg.ensures
