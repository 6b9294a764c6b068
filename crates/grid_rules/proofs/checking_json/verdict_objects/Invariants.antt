use Rattle.std.proofs.Common.{◌≡◌, take}
use Rattle.std.specs.List.{flat_map}
use Rattle.std.specs.String.{string_bytes}
use Rattle.grid_rules.specs.ReportJson.{verdict_json}
use Rattle.grid_rules.proofs.checking_json.verdict_objects.Given as goal

abbrev pub invariant-loop-found : goal.invariant-loop-found
invariant-loop-found l =
    string_bytes l.text ≡ flat_map verdict_json (take l.found-index l.verdicts)
