use Rattle.std.proofs.Common.{◌≡◌, ◌∙◌, ◌++◌, ◌∷◌, [], List, length, rules, ap, subst, sym}
use Rattle.world_operations.specs.declared.operation.Operation.{Operation}
use Rattle.world_operations.specs.Moves.{IsFlushed}
use Rattle.lemmas.proofs.Results.{on_ok}
use Rattle.world.specs.Consistent.{Preserves}
use Rattle.world.specs.Parts.{NothingNew, OperationBecomes, OperationMoves}
use Rattle.world.specs.State.{state_of}
use Rattle.world.specs.Step.{new_operation}
use Rattle.world.proofs.Moving.{opened, opened_keeps}
use Rattle.world.proofs.Preserving.{preserves_itself}
use Rattle.world.proofs.scene.Scene.open.Goals as goal

pub returns-in_err-push_operation-clause-keeps : goal.returns-in_err-push_operation-clause-keeps
returns-in_err-push_operation-clause-keeps c =
    let w = state_of c.args.self.now in
    subst (λ (o : List Operation). Preserves w (record w { operations = o })) (sym c.in_err-push_operation.ensures.err) (preserves_itself w)

pub returns-clause-ok : goal.returns-clause-ok
returns-clause-ok c =
    let w = state_of c.args.self.now in
    let before : c.len.result ≡ length w.sent = search rules in
    let counted : c.len-number.result ≡ length w.operations = search rules in
    let first : c.new-operation.result ≡ new_operation c.args.node c.args.job (length w.sent) c.args.task =
    c.new-operation.ensures ∙ ap (λ n. new_operation c.args.node c.args.job n c.args.task) before in
    let pushed : c.push_operation.new.operations.items ≡ w.operations ++ new_operation c.args.node c.args.job (length w.sent) c.args.task ∷ [] =
    c.in_ok-push_operation.ensures.ok ∙ ap (λ (o : Operation). w.operations ++ o ∷ []) first in
    on_ok c.flush_at.result _ _
    (λ b. opened w c.args.node c.args.job c.args.task c.flush_at.new.operations.items c.flush_at.new.sent.items
    (subst (λ n. OperationBecomes IsFlushed (w.operations ++ new_operation c.args.node c.args.job (length w.sent) c.args.task ∷ []) n w.sent c.flush_at.new.operations.items c.flush_at.new.sent.items) counted
    (subst (λ (o : List Operation). OperationBecomes IsFlushed o c.len-number.result w.sent c.flush_at.new.operations.items c.flush_at.new.sent.items) pushed b))) c.flush_at.ensures.ok

pub returns-clause-keeps : goal.returns-clause-keeps
returns-clause-keeps c =
    let w = state_of c.args.self.now in
    let before : c.len.result ≡ length w.sent = search rules in
    let counted : c.len-number.result ≡ length w.operations = search rules in
    let first : c.new-operation.result ≡ new_operation c.args.node c.args.job (length w.sent) c.args.task =
    c.new-operation.ensures ∙ ap (λ n. new_operation c.args.node c.args.job n c.args.task) before in
    let pushed : c.push_operation.new.operations.items ≡ w.operations ++ new_operation c.args.node c.args.job (length w.sent) c.args.task ∷ [] =
    c.in_ok-push_operation.ensures.ok ∙ ap (λ (o : Operation). w.operations ++ o ∷ []) first in
    opened_keeps w c.args.node c.args.job c.args.task c.flush_at.new.operations.items c.flush_at.new.sent.items c.requires.honest c.requires.new c.requires.right
    (subst (λ n. OperationMoves NothingNew (w.operations ++ new_operation c.args.node c.args.job (length w.sent) c.args.task ∷ []) n w.sent c.flush_at.new.operations.items c.flush_at.new.sent.items) counted
    (subst (λ (o : List Operation). OperationMoves NothingNew o c.len-number.result w.sent c.flush_at.new.operations.items c.flush_at.new.sent.items) pushed c.flush_at.ensures.some))
