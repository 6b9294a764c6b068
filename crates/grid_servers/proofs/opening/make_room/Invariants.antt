use Rattle.std.proofs.Common.{◌≡◌, length}
use Rattle.grid_servers.proofs.Standing.{IsPadded}
use Rattle.grid_servers.proofs.opening.make_room.Given as goal

abbrev pub invariant-loop : goal.invariant-loop
invariant-loop g l = IsPadded l.fn.nodes.items l.nodes.items × (length l.nodes.items ≡ l.counter)
