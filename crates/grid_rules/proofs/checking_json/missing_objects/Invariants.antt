use Rattle.std.proofs.Common.{◌≡◌, take}
use Rattle.std.specs.List.{flat_map}
use Rattle.std.specs.String.{string_bytes}
use Rattle.grid_rules.specs.ReportJson.{missing_json}
use Rattle.grid_rules.proofs.checking_json.missing_objects.Given as goal

abbrev pub invariant-loop-number : goal.invariant-loop-number
invariant-loop-number l =
    string_bytes l.text ≡ flat_map missing_json (take l.number-index l.numbers)
