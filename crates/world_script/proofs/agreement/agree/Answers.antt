use Rattle.std.proofs.Common.{sym, arith}
use Rattle.world_operations.specs.declared.operation.Operation.{Operation}
use Rattle.world_script.specs.Agreeing.{AgreesWith}
use Rattle.world_script.proofs.Agreeing.{affirmed, agree_of, agree_with, first_all, first_more, refuted}
use Rattle.world_script.proofs.agreement.agree.Goals as goal

pub returns-then-not-agrees : goal.returns-then-not-agrees
returns-then-not-agrees c = refuted c.in_ok-agrees.agrees c.in_ok-agrees.ensures c.if-not-agrees.true (λ all. agree_with c.args.operations.now all c.operation-item.result (c.loop-operation.operation-index, c.loop-operation-test.true, sym c.operation-item.is))

pub loop-operation-preserved : goal.loop-operation-preserved
loop-operation-preserved c = first_more (λ (op : Operation). AgreesWith op c.args.operations.now) c.args.operations.now c.loop-operation.operation-index c.operation-item.result c.loop-operation.invariant c.loop-operation-test.true c.operation-item.is (c.in_ok-agrees.ensures.0 c.if-not-agrees.false)

pub returns : goal.returns
returns c = affirmed (agree_of c.args.operations.now (first_all (λ (op : Operation). AgreesWith op c.args.operations.now) c.args.operations.now c.loop-operation.operation-index c.loop-operation.invariant (omega (arith, c.loop-operation-test.false))))
