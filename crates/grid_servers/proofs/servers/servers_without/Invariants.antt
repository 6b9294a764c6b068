use Rattle.std.proofs.Common.{◌≡◌, take}
use Rattle.grid_servers.specs.Servers.{servers_without}
use Rattle.grid_servers.proofs.servers.servers_without.Given as goal

abbrev pub invariant-loop-server : goal.invariant-loop-server
invariant-loop-server l =
    l.left.items ≡ servers_without (take l.server-index l.servers) l.without
