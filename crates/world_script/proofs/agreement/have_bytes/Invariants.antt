use Rattle.world_operations.specs.declared.operation.Operation.{Operation}
use Rattle.world_script.specs.Agreeing.{Has}
use Rattle.world_script.proofs.Agreeing.{AreFirst}
use Rattle.world_script.proofs.agreement.have_bytes.Given as goal

abbrev pub invariant-loop-operation : goal.invariant-loop-operation
invariant-loop-operation l = AreFirst (λ (op : Operation). Has l.cap l.offset l.bytes op) l.operations l.operation-index
