use Rattle.served_grid.specs.Served.{HearsAll, nothing}
use Rattle.served_grid.proofs.served.ServedGrid.wait_for_any.Given as goal

-- nothing was heard so far
abbrev pub invariant-loop : goal.invariant-loop
invariant-loop g l = HearsAll g.W.Wire.calls l.fn.self nothing l.self
