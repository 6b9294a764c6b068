use Rattle.std.proofs.Common.{◌≡◌, None, replicate}
use Rattle.grid_serving.proofs.clients.no_clients.Given as goal

-- nobody is at any of these
abbrev pub invariant-loop : goal.invariant-loop
invariant-loop g l = l.places.items ≡ replicate l.counter None
