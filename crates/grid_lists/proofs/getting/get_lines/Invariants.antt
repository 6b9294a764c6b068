use Rattle.std.proofs.Common.{IfSome, length}
use Rattle.grid_gets.specs.Gets.{WereRead}
use Rattle.grid_servers.specs.Grids.{grid_calls}
use Rattle.grid_lists.proofs.GetLemmas.{SoFar}
use Rattle.grid_lists.proofs.getting.get_lines.Given as goal

-- what became of the lines so far, and the servers that are open
abbrev pub invariant-loop-line : goal.invariant-loop-line
invariant-loop-line g l = record {
  so_far : SoFar (grid_calls g.R.Stream.Write.contents g.R.Stream.Read.remaining) l.fn.words l.fn.catalogue.left l.catalogue.left l.tally.status l.tally.is_found (g.F.NamedFiles.acts l.fn.files) (g.F.NamedFiles.acts l.files);
  kept : IfSome l.kept (WereRead (grid_calls g.R.Stream.Write.contents g.R.Stream.Read.remaining) l.fn.words.grid.now);
}

abbrev pub decreases-loop-line : goal.decreases-loop-line
decreases-loop-line g l = length l.catalogue.left
