use Rattle.std.proofs.Common.{◌≡◌, take}
use Rattle.std.specs.String.{string_bytes}
use Rattle.world_script.specs.Telling.{lines_from}
use Rattle.world_script.proofs.ending.ending_of.Given as goal

abbrev pub invariant-loop-number : goal.invariant-loop-number
invariant-loop-number l = string_bytes l.lines ≡ lines_from 0 (take l.number l.operations)
