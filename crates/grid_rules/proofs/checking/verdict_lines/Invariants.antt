use Rattle.std.proofs.Common.{◌≡◌, take}
use Rattle.std.specs.List.{flat_map}
use Rattle.std.specs.String.{string_bytes}
use Rattle.grid_rules.specs.ReportLines.{verdict_line}
use Rattle.grid_rules.proofs.checking.verdict_lines.Given as goal

abbrev pub invariant-loop-found : goal.invariant-loop-found
invariant-loop-found l =
    string_bytes l.lines ≡ flat_map verdict_line (take l.found-index l.verdicts)
