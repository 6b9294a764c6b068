use Rattle.std.proofs.Common.{[]}
use Rattle.std.proofs.lemmas.Result.{IfOk-weaker}
use Rattle.grid_words.specs.CommandLine.{caps}
use Rattle.grid_words.proofs.Added.{conflicting}
use Rattle.grid_words.proofs.verify_arguments.verified_caps.Goals as goal

pub returns : goal.returns
returns c =
    let one = c.in_ok-arg.arg in
    IfOk-weaker c.conflicts_with.result _ _ (λ arg adds. conflicting one arg _ [] caps adds c.in_ok-arg.ensures) c.conflicts_with.ensures
