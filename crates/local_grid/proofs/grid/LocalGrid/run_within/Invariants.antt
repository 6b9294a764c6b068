use Rattle.std.proofs.Common.{◌≤◌}
use Rattle.local_grid.specs.Turns.{TurnsOften}
use Rattle.local_grid.proofs.grid.LocalGrid.run_within.Given as goal

-- so many turns have passed, and the clock has not gone back
abbrev pub invariant-loop : goal.invariant-loop
invariant-loop g l =
    TurnsOften g.O.Operation.calls g.S.Store.calls g.L.Link.carries l.counter
    (record { operation = l.fn.operation; grid = l.fn.self }) (record { operation = l.operation; grid = l.self })
    × (l.fn.self.clock ≤ l.self.clock)
