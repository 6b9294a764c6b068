use Rattle.std.proofs.Common.{◌≡◌, length}
use Rattle.grid_servers.proofs.links.open_links.Given as goal

abbrev pub invariant-loop : goal.invariant-loop
invariant-loop g l = length l.links.items ≡ l.counter
