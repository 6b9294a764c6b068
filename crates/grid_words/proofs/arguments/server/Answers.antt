use Rattle.std.proofs.Common.{[], codes}
use Rattle.std.proofs.lemmas.Result.{IfOk-weaker}
use Rattle.grid_words.specs.CommandLine.{repeated, server}
use Rattle.grid_words.proofs.Added.{conflicting}
use Rattle.grid_words.proofs.arguments.server.Goals as goal

pub returns : goal.returns
returns c =
    let one = c.in_ok-conflicts_with.field-0 in
    let first = conflicting c.repeated-server.result one _ [] (repeated (codes "server")) c.in_ok-conflicts_with.ensures c.repeated-server.ensures in
    IfOk-weaker c.conflicts_with-2.result _ _ (λ arg adds. conflicting one arg _ [] server adds first) c.conflicts_with-2.ensures
