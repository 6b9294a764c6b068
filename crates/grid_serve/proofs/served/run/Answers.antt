use Rattle.std.proofs.Common.{arith}
use Rattle.grid_serve.proofs.served.run.Goals as goal

pub returns-clause-ok : goal.returns-clause-ok
returns-clause-ok g c =
    record { count = c.loop.counter; most = omega arith; goes_on = c.loop.invariant }
