use Rattle.std.proofs.Common.{◌≡◌, ◌++◌, drop}
use Rattle.checker.specs.Report.{good_pairs}
use Rattle.checker.proofs.report.good_pairs.Given as goal

-- the verdicts so far, and those that the rest gives
abbrev pub invariant-loop-found : goal.invariant-loop-found
invariant-loop-found l = l.pairs.items ++ good_pairs (drop l.found-index l.verdicts) ≡ good_pairs l.verdicts
