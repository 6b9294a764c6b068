use Rattle.std.proofs.Common.{rules, arith}
use Rattle.grid_telling.specs.ProgressLine.{encoding_line}
use Rattle.grid_telling.proofs.Lines.{encoding_short, told_below}
use Rattle.grid_telling.proofs.progress_lines.encoding_line.Goals as goal

pub returns-clause-line : goal.returns-clause-line
returns-clause-line c = search rules

pub returns-clause-short : goal.returns-clause-short
returns-clause-short c =
    told_below c.format.result (encoding_line c.args.verb c.args.size) 80
    (encoding_short c.args.verb c.args.size (omega (arith, c.ranges.size)))
    (returns-clause-line c)
