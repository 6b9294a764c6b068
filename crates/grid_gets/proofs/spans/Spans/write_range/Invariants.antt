use Rattle.std.proofs.Common.{◌≤◌, ◌-◌}
use Rattle.grid_servers.specs.Grids.{grid_calls}
use Rattle.grid_gets.specs.Spans.{Leads}
use Rattle.grid_gets.proofs.spans.Spans.write_range.Given as goal

abbrev pub invariant-spans : goal.invariant-spans
invariant-spans g l = record {
  within : l.from ≤ l.range.to;
  leads : Leads (grid_calls g.R.Stream.Write.contents g.R.Stream.Read.remaining) l.cap l.servers l.fn.self l.range.from (g.O.Write.contents l.fn.out) l.self l.from (g.O.Write.contents l.out);
}

abbrev pub decreases-spans : goal.decreases-spans
decreases-spans g l = l.range.to - l.from
