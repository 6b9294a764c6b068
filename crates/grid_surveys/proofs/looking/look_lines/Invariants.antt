use Rattle.std.proofs.Common.{IfSome, length}
use Rattle.grid_servers.specs.Grids.{grid_calls}
use Rattle.grid_shares.specs.Standing.{WereOpened}
use Rattle.grid_repairs.specs.Checks.{WereChecked}
use Rattle.grid_surveys.specs.LookEnds.{grid_of, task_of}
use Rattle.grid_surveys.proofs.LookLemmas.{SoFar}
use Rattle.grid_surveys.proofs.looking.look_lines.Given as goal

-- what became of the lines so far, and the servers that are open
abbrev pub invariant-loop-line : goal.invariant-loop-line
invariant-loop-line g l = record {
  so_far : SoFar (grid_calls g.R.Stream.Write.contents g.R.Stream.Read.remaining) (task_of l.fn.looking.look) l.fn.catalogue.left l.catalogue.left l.tally.counts l.tally.status (g.O.Write.contents l.fn.out) (g.O.Write.contents l.out);
  reading : IfSome l.reading (WereChecked (grid_calls g.R.Stream.Write.contents g.R.Stream.Read.remaining) (grid_of l.fn.looking.look));
  writing : IfSome l.writing (λ s. WereOpened (grid_calls g.R.Stream.Write.contents g.R.Stream.Read.remaining) (grid_of l.fn.looking.look) s.grid);
}

abbrev pub decreases-loop-line : goal.decreases-loop-line
decreases-loop-line g l = length l.catalogue.left
