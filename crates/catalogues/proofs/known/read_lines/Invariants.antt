use Rattle.std.proofs.Common.{length}
use Rattle.catalogues.proofs.KnownLaws.{SoFar}
use Rattle.catalogues.proofs.known.read_lines.Given as goal

abbrev pub invariant-loop-line : goal.invariant-loop-line
invariant-loop-line l = SoFar l.fn.catalogue.left l.catalogue l.caps

abbrev pub decreases-loop-line : goal.decreases-loop-line
decreases-loop-line l = length l.catalogue.left
