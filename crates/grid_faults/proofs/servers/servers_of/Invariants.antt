use Rattle.std.proofs.Common.{◌≡◌, map, take}
use Rattle.grid_faults.specs.Servers.{server_of}
use Rattle.grid_faults.proofs.servers.servers_of.Given as goal

abbrev pub invariant-loop-number : goal.invariant-loop-number
invariant-loop-number l = l.servers.items ≡ map server_of (take l.number-index l.numbers)
