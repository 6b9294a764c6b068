use Rattle.std.proofs.Common.{◌≡◌, map, take}
use Rattle.grid_stores.proofs.finding.find_servers.Given as goal

abbrev pub invariant-loop-server : goal.invariant-loop-server
invariant-loop-server g l = map (λ s. s.server) l.found.items ≡ take l.server-index l.servers
