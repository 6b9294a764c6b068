use Rattle.std.proofs.Common.{length}
use Rattle.world_operations.specs.Tasks.{requests_of}
use Rattle.world_operations.proofs.Sending.{IsSending}
use Rattle.world_operations.proofs.operation.send_all.Given as goal

-- so much was sent
abbrev pub invariant-loop : goal.invariant-loop
invariant-loop l = IsSending l.node l.initial.task l.task l.initial.sent.items l.sent.items

-- there is less to send
abbrev pub decreases-loop : goal.decreases-loop
decreases-loop l = length (requests_of l.task).outgoing
