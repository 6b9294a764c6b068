use Rattle.std.proofs.Common.{[]}
use Rattle.served_grid.specs.Remotes.{Gave}
use Rattle.served_grid.proofs.remote.hear.Given as goal

-- nothing was given so far
abbrev pub invariant-loop : goal.invariant-loop
invariant-loop g l = Gave g.W.Wire.calls l.fn.connection [] l.connection
