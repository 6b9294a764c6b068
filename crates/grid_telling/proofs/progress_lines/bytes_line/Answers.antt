use Rattle.std.proofs.Common.{rules, arith}
use Rattle.grid_telling.specs.ProgressLine.{bytes_line}
use Rattle.grid_telling.proofs.Lines.{bytes_short, told_below}
use Rattle.grid_telling.proofs.progress_lines.bytes_line.Goals as goal

pub returns-clause-line : goal.returns-clause-line
returns-clause-line c = search rules

pub returns-clause-short : goal.returns-clause-short
returns-clause-short c =
    told_below c.format.result
    (bytes_line c.args.verb c.args.done c.args.total c.args.remark.now) 80
    (bytes_short c.args.verb c.args.done c.args.total c.args.remark.now
    (omega (arith, c.ranges.done)) (omega (arith, c.ranges.total)) c.requires)
    (returns-clause-line c)
