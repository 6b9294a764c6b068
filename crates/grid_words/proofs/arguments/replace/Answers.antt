use Rattle.std.proofs.Common.{[], codes}
use Rattle.std.proofs.lemmas.Result.{IfOk-weaker}
use Rattle.grid_words.specs.CommandLine.{number, replace}
use Rattle.grid_words.proofs.Added.{conflicting}
use Rattle.grid_words.proofs.arguments.replace.Goals as goal

pub returns : goal.returns
returns c =
    let marked = c.in_ok-of_marked_grid.ensures (number (codes "replace")) c.number-server.ensures in
    IfOk-weaker c.conflicts_with.result _ _ (λ arg adds. conflicting c.in_ok-of_marked_grid.field-0 arg _ [] replace adds marked) c.conflicts_with.ensures
