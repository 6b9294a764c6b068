use Rattle.std.proofs.Common.{◌≡◌, ◌++◌, map, take, drop}
use Rattle.world.specs.Step.{forgotten_by}
use Rattle.world.proofs.parts.forget_all.Given as goal

-- those before this one are forgotten
abbrev pub invariant-loop-operation : goal.invariant-loop-operation
invariant-loop-operation l =
    l.operation-items ≡ map (forgotten_by l.node) (take l.operation-index l.fn.operations.items) ++ drop l.operation-index l.fn.operations.items
