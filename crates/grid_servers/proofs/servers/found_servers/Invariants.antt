use Rattle.grid_servers.proofs.Rising.{AreBelow}
use Rattle.grid_servers.proofs.servers.found_servers.Given as goal

abbrev pub invariant-loop-server : goal.invariant-loop-server
invariant-loop-server g l = AreBelow l.servers.items l.server
