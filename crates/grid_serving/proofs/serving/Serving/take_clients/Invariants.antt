use Rattle.grid_serving.specs.Loops.{TakeInTurn}
use Rattle.grid_serving.proofs.serving.Serving.take_clients.Given as goal

-- so many are taken
abbrev pub invariant-loop : goal.invariant-loop
invariant-loop g l = TakeInTurn g.S.Store.calls l.counter l.now l.fn.self l.self
