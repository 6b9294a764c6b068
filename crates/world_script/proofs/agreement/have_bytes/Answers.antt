use Rattle.std.proofs.Common.{◌≡◌, ◌↔◌, IsTrue, true, false, rules, arith}
use Rattle.world_operations.specs.declared.operation.Operation.{Operation}
use Rattle.world_script.specs.Agreeing.{Has}
use Rattle.world_script.proofs.Agreeing.{affirmed, all_at, first_all, first_more, refuted}
use Rattle.world_script.proofs.agreement.have_bytes.Goals as goal

pub returns-then-not-has_bytes : goal.returns-then-not-has_bytes
returns-then-not-has_bytes c =
    let P : Operation → Type 0 = λ (op : Operation). Has c.args.cap.now c.args.offset c.args.bytes.now op in
    let says : IsTrue c.has_bytes.result ↔ P c.operation-item.result = c.has_bytes.ensures in
    let wrong : c.has_bytes.result ≡ false = search rules in
    refuted c.has_bytes.result says wrong (λ all. all_at P c.args.operations.now c.loop-operation.operation-index c.operation-item.result all c.loop-operation-test.true c.operation-item.is)

pub loop-operation-preserved : goal.loop-operation-preserved
loop-operation-preserved c =
    let P : Operation → Type 0 = λ (op : Operation). Has c.args.cap.now c.args.offset c.args.bytes.now op in
    let says : IsTrue c.has_bytes.result ↔ P c.operation-item.result = c.has_bytes.ensures in
    let yes : c.has_bytes.result ≡ true = search rules in
    first_more P c.args.operations.now c.loop-operation.operation-index c.operation-item.result c.loop-operation.invariant c.loop-operation-test.true c.operation-item.is (says.0 yes)

pub returns : goal.returns
returns c =
    let P : Operation → Type 0 = λ (op : Operation). Has c.args.cap.now c.args.offset c.args.bytes.now op in
    affirmed (first_all P c.args.operations.now c.loop-operation.operation-index c.loop-operation.invariant (omega (arith, c.loop-operation-test.false)))
