use Rattle.std.proofs.Common.{◌++◌, List, ℕ, ap, sym, take, ◌∙◌, arith}
use Rattle.std.proofs.lemmas.Grind.{common_steps}
use Rattle.world_script.specs.Telling.{lines_from}
use Rattle.world_script.proofs.OperationLines.{lines_more}
use Rattle.world_script.proofs.ending.ending_of.Goals as goal

pub loop-number-preserved : goal.loop-number-preserved
loop-number-preserved c =
    let before : List ℕ = lines_from 0 (take c.loop-number.number c.args.operations.now) in
    c.in_ok-push_str.ensures.bytes ∙ ap (λ (l : List ℕ). l ++ c.as_str.result.now) c.loop-number.invariant
    ∙ ap (λ (l : List ℕ). before ++ l) (c.as_str.ensures.value ∙ c.in_ok-operation_line.ensures)
    ∙ sym (lines_more c.args.operations.now c.loop-number.number c.index-operations-number.result c.loop-number-test.true c.index-operations-number.is)

pub returns-clause-lines : goal.returns-clause-lines
returns-clause-lines c = grind (arith, common_steps)
