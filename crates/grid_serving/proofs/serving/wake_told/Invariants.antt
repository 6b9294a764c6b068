use Rattle.std.specs.Prelude.{ℕ, List}
use Rattle.grid_serving.specs.Turns.{WakeInTurn}
use Rattle.grid_serving.proofs.serving.wake_told.Given as goal

-- these are woken so far
abbrev pub invariant-loop-event : goal.invariant-loop-event
invariant-loop-event g l = (nodes : List ℕ) × WakeInTurn nodes l.fn.clients l.clients
