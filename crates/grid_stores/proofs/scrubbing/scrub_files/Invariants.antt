use Rattle.std.proofs.Common.{length}
use Rattle.grid_stores.specs.Scrubbing.{AreTold}
use Rattle.grid_stores.proofs.scrubbing.scrub_files.Given as goal

-- the files so far were told and counted
abbrev pub invariant-loop-found : goal.invariant-loop-found
invariant-loop-found g l = AreTold l.fn.telling.json l.fn.telling.server l.fn.counted l.counted (g.O.Write.contents l.fn.out) (g.O.Write.contents l.out)

abbrev pub decreases-loop-found : goal.decreases-loop-found
decreases-loop-found g l = length l.files.left
