use Rattle.std.proofs.Common.{map, take}
use Rattle.world_script.specs.Refused.{AreSkipped}
use Rattle.world_script.proofs.lines.read_lines.Given as goal

abbrev pub invariant-loop-first : goal.invariant-loop-first
invariant-loop-first l = AreSkipped (take l.first (map (λ x. x.now) l.lines))
