use Rattle.std.proofs.Common.{length}
use Rattle.local_grid.proofs.PassingLaws.{IsSent}
use Rattle.local_grid.proofs.passing.carry.Given as goal

-- of the frame all but the rest was sent
abbrev pub invariant-pieces : goal.invariant-pieces
invariant-pieces g l = IsSent g.E.Ends.calls l.way l.fn.ends l.frame l.rest l.fn.came.items l.came.items l.ends

abbrev pub decreases-pieces : goal.decreases-pieces
decreases-pieces g l = length l.rest
