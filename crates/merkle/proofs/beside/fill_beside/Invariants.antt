use Rattle.merkle.proofs.BesideLemmas.{AreBuiltFrom}
use Rattle.merkle.proofs.beside.fill_beside.Given as goal

abbrev pub invariant-loop-row : goal.invariant-loop-row
invariant-loop-row l = AreBuiltFrom l.leaves l.nodes l.row

abbrev pub decreases-loop-row : goal.decreases-loop-row
decreases-loop-row l = l.row
