use Rattle.std.proofs.Common.{rules, arith}
use Rattle.grid_telling.specs.ProgressLine.{files_line}
use Rattle.grid_telling.proofs.Lines.{files_short, told_below}
use Rattle.grid_telling.proofs.progress_lines.counted_line.Goals as goal

pub returns-clause-line : goal.returns-clause-line
returns-clause-line c = search rules

pub returns-clause-short : goal.returns-clause-short
returns-clause-short c =
    told_below c.format.result (files_line c.args.verb c.args.files.now c.args.remark.now) 80
    (files_short c.args.verb c.args.files.now c.args.remark.now (omega (arith, c.well_formed))
    (omega (arith, c.well_formed)) (omega (arith, c.well_formed)) c.requires)
    (returns-clause-line c)
