use Rattle.std.proofs.Common.{rules, arith}
use Rattle.grid_telling.specs.ProgressLine.{left_text}
use Rattle.grid_telling.proofs.Lines.{left_short, told_within}
use Rattle.grid_telling.proofs.progress_lines.left_text.Goals as goal

pub returns-clause-text : goal.returns-clause-text
returns-clause-text c = search rules

pub returns-clause-short : goal.returns-clause-short
returns-clause-short c =
    told_within c.format.result (left_text c.args.seconds) 29
    (left_short c.args.seconds (omega (arith, c.ranges.seconds))) (returns-clause-text c)
