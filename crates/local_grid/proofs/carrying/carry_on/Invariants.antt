use Rattle.std.proofs.Common.{◌≤◌}
use Rattle.local_grid.specs.OutsideTurns.{TurnsOften}
use Rattle.local_grid.proofs.carrying.carry_on.Given as goal

-- so many turns have passed, and the clock has not gone back
abbrev pub invariant-loop : goal.invariant-loop
invariant-loop g l =
    TurnsOften g.O.Operation.calls g.G.Outside.calls l.counter
    (record { operation = l.fn.operation; outside = l.fn.outside })
    (record { operation = l.operation; outside = l.outside })
    × (g.G.Outside.calls.clock l.fn.outside ≤ g.G.Outside.calls.clock l.outside)
