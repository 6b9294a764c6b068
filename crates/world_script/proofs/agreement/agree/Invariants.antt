use Rattle.world_operations.specs.declared.operation.Operation.{Operation}
use Rattle.world_script.specs.Agreeing.{AgreesWith}
use Rattle.world_script.proofs.Agreeing.{AreFirst}
use Rattle.world_script.proofs.agreement.agree.Given as goal

abbrev pub invariant-loop-operation : goal.invariant-loop-operation
invariant-loop-operation l = AreFirst (λ (op : Operation). AgreesWith op l.operations) l.operations l.operation-index
