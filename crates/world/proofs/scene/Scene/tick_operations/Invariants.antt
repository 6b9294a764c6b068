use Rattle.world.specs.State.{state_of}
use Rattle.world.proofs.Moving.{IsTicking}
use Rattle.world.proofs.scene.Scene.tick_operations.Given as goal

abbrev pub invariant-loop-number : goal.invariant-loop-number
invariant-loop-number l = IsTicking (state_of l.initial.self) (state_of l.self) l.node l.number
