use Rattle.sha2_lanes.specs.Lanes.{text}
use Rattle.sha2_lanes.proofs.SideBySide.{HaveSoFar, TakesRest}
use Rattle.sha2_lanes.proofs.side_by_side.add_rests.Given as goal

abbrev pub invariant-loop-j : goal.invariant-loop-j
invariant-loop-j l = HaveSoFar (TakesRest (text l.pieces) l.start) l.fn.streams l.streams l.j
