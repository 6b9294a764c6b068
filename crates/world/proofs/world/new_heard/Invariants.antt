use Rattle.std.proofs.Common.{◌≡◌, [], List, replicate}
use Rattle.world_operations.specs.declared.message.Sent.{Sent}
use Rattle.world.proofs.world.new_heard.Given as goal

abbrev pub invariant-loop : goal.invariant-loop
invariant-loop l = l.heard.items ≡ replicate {A = List Sent} l.counter []
