use Rattle.std.proofs.Common.{ap, subst, sym}
use Rattle.grid_servers.specs.Grids.{FolderGridState}
use Rattle.grid_servers.specs.Opened.{AreOpenedToRead}
use Rattle.grid_gets.specs.Spans.{Spanning}
use Rattle.grid_gets.proofs.standing.OpenGrid.open.Goals as goal

pub returns : goal.returns
returns g c = record {
  distinct = c.in_ok-servers.ensures;
  opened = subst (λ (grid : FolderGridState _). AreOpenedToRead c.args.place.now.grid.now grid) (sym (ap (λ (s : Spanning (FolderGridState _)). s.grid) c.new.ensures)) c.in_ok-nodes.ensures;
  first = ap (λ (s : Spanning (FolderGridState _)). s.session) c.new.ensures;
}
