use Rattle.std.proofs.Common.{length}
use Rattle.catalogues.proofs.WholeLaws.{ReadSoFar}
use Rattle.catalogues.proofs.reading.entry_count.Given as goal

abbrev pub invariant-loop-catalogue : goal.invariant-loop-catalogue
invariant-loop-catalogue l = ReadSoFar l.text l.catalogue

abbrev pub decreases-loop-catalogue : goal.decreases-loop-catalogue
decreases-loop-catalogue l = length l.catalogue.left
