use Rattle.world_operations.proofs.Sending.{IsHanding, waiting}
use Rattle.world_operations.proofs.operation.hand_out.Given as goal

-- so much was handed out
abbrev pub invariant-loop : goal.invariant-loop
invariant-loop l = IsHanding l.initial.task l.task l.initial.given l.given

-- there is less to hand out
abbrev pub decreases-loop : goal.decreases-loop
decreases-loop l = waiting l.task
