use Rattle.std.proofs.Common.{◌≡◌, replicate}
use Rattle.world.specs.State.{new_server}
use Rattle.world.proofs.world.new_servers.Given as goal

abbrev pub invariant-loop : goal.invariant-loop
invariant-loop l = l.servers.items ≡ replicate l.counter new_server
