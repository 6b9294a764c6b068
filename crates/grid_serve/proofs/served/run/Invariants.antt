use Rattle.grid_serve.specs.Served.{GoesOnTimes}
use Rattle.grid_serve.proofs.served.run.Given as goal

-- so many times it went on
abbrev pub invariant-loop : goal.invariant-loop
invariant-loop g l = GoesOnTimes l.counter l.fn.served l.served
