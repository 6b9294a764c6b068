use Rattle.std.proofs.Common.{drop, map, take}
use Rattle.world_script.specs.Script.{Reads}
use Rattle.world_script.proofs.lines.read_commands.Given as goal

abbrev pub invariant-loop-index : goal.invariant-loop-index
invariant-loop-index l = Reads (drop l.from (take l.index (map (λ x. x.now) l.lines))) l.commands.items
