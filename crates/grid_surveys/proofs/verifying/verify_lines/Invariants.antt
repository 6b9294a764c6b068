use Rattle.std.proofs.Common.{length}
use Rattle.sources.specs.Opened.{GivesOpened}
use Rattle.grid_surveys.specs.VerifyEnds.{making_of}
use Rattle.grid_surveys.proofs.VerifyLemmas.{SoFar}
use Rattle.grid_surveys.proofs.verifying.verify_lines.Given as goal

-- what became of the lines so far
abbrev pub invariant-loop-line : goal.invariant-loop-line
invariant-loop-line g l = SoFar (GivesOpened g.R.File.Seek.stream_position g.R.File.Seek.stream_bytes g.R.File.Read.remaining) l.fn.verifying.words.now (making_of l.fn.verifying.comparing) l.fn.catalogue.left l.catalogue.left l.tally.counts l.tally.status (g.O.Write.contents l.fn.out) (g.O.Write.contents l.out)

abbrev pub decreases-loop-line : goal.decreases-loop-line
decreases-loop-line g l = length l.catalogue.left
