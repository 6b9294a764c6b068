use Rattle.world.proofs.Worlds.{IsRunning}
use Rattle.world.proofs.world.World.run.Given as goal

abbrev pub invariant-loop-taken : goal.invariant-loop-taken
invariant-loop-taken g l = IsRunning l.initial.self l.self l.events l.taken
