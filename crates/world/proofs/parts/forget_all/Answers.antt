use Rattle.std.proofs.Common.{◌≡◌, ◌∙◌, ◌<◌, List, length, sym, ap, subst}
use Rattle.std.proofs.lemmas.List.Edits.{map_over_more}
use Rattle.world_operations.specs.declared.operation.Operation.{Operation}
use Rattle.world.specs.Step.{forgotten_by}
use Rattle.world.proofs.parts.forget_all.Goals as goal

pub loop-operation-preserved : goal.loop-operation-preserved
loop-operation-preserved c =
    let new : c.forget_one.new.operation ≡ forgotten_by c.args.node c.operation-item.result = c.forget_one.ensures ∙ ap (forgotten_by c.args.node) (sym c.operation-item.is) in
    let within : c.loop-operation.operation-index < length c.args.operations.now.items =
    subst (λ (xs : List Operation). c.loop-operation.operation-index < length xs) c.deref_mut-operation-items.ensures.value c.loop-operation-test.true in
    rw new (map_over_more (forgotten_by c.args.node) c.args.operations.now.items c.loop-operation.operation-items c.loop-operation.operation-index c.operation-item.result within c.loop-operation.invariant c.operation-item.is)
