use Rattle.std.proofs.Common.{[], codes}
use Rattle.std.proofs.lemmas.Result.{IfOk-weaker}
use Rattle.grid_words.specs.CommandLine.{cap_file, option}
use Rattle.grid_words.proofs.Added.{conflicting}
use Rattle.grid_words.proofs.catalogue_arguments.cap_file.Goals as goal

pub returns : goal.returns
returns c =
    let one = c.in_ok-conflicts_with.field-0 in
    let first = conflicting c.option.result one _ [] (option (codes "cap-file")) c.in_ok-conflicts_with.ensures c.option.ensures in
    IfOk-weaker c.conflicts_with-2.result _ _ (λ arg adds. conflicting one arg _ [] cap_file adds first) c.conflicts_with-2.ensures
