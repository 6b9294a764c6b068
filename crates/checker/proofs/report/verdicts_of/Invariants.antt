use Rattle.std.proofs.Common.{◌≡◌, ◌++◌, drop}
use Rattle.std.specs.List.{flat_map}
use Rattle.checker.specs.Found.{found_among}
use Rattle.checker.proofs.report.verdicts_of.Given as goal

-- the verdicts so far, and those that the rest gives
abbrev pub invariant-loop-told : goal.invariant-loop-told
invariant-loop-told l = l.verdicts.items ++ flat_map (found_among l.machine.offers.items) (drop l.told-index l.machine.told.items) ≡ flat_map (found_among l.machine.offers.items) l.machine.told.items
