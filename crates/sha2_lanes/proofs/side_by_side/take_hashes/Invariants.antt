use Rattle.sha2_lanes.proofs.SideBySide.{HaveSoFar, TakesHash}
use Rattle.sha2_lanes.proofs.side_by_side.take_hashes.Given as goal

abbrev pub invariant-loop-j : goal.invariant-loop-j
invariant-loop-j l = HaveSoFar (TakesHash l.hashes l.count) l.fn.streams l.streams l.j
