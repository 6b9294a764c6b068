use Rattle.std.proofs.Common.{rules, arith}
use Rattle.grid_telling.specs.ProgressLine.{waits_text}
use Rattle.grid_telling.proofs.Lines.{waits_short, told_within}
use Rattle.grid_telling.proofs.progress_lines.waits_text.Goals as goal

pub returns-clause-text : goal.returns-clause-text
returns-clause-text c = search rules

pub returns-clause-short : goal.returns-clause-short
returns-clause-short c =
    told_within c.format.result (waits_text c.args.server) 29
    (waits_short c.args.server (omega (arith, c.ranges.server))) (returns-clause-text c)
