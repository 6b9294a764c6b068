use Rattle.std.proofs.Common.{◌≡◌}
use Rattle.grid_rules.specs.ReportJson.{missing}
use Rattle.grid_rules.proofs.checking_json.missing_shares.Given as goal

abbrev pub invariant-loop-number : goal.invariant-loop-number
invariant-loop-number l = l.numbers.items ≡ missing l.verdicts l.number
