use Rattle.std.proofs.Common.{[]}
use Rattle.std.proofs.lemmas.Result.{IfOk-weaker}
use Rattle.grid_words.specs.CommandLine.{excluding}
use Rattle.grid_words.proofs.Added.{conflicting}
use Rattle.grid_words.proofs.catalogue_arguments.of_whole_files.Goals as goal

pub returns : goal.returns
returns c = λ rule has.
    let one = c.in_ok-conflicts_with.field-0 in
    let two = c.in_ok-conflicts_with-2.field-0 in
    let first = conflicting c.args.arg one _ [] rule c.in_ok-conflicts_with.ensures has in
    let second = conflicting one two _ [] (excluding rule) c.in_ok-conflicts_with-2.ensures first in
    IfOk-weaker c.conflicts_with-3.result _ _ (λ arg adds. conflicting two arg _ [] (excluding rule) adds second) c.conflicts_with-3.ensures
