use Rattle.std.proofs.Common.{◌≡◌, ◌∙◌, ◌++◌, ◌∷◌, [], ℕ, Option, Some, ap, subst, sym}
use Rattle.wire.specs.declared.message.Message.{Message}
use Rattle.world_operations.specs.declared.message.Sent.{Sent}
use Rattle.request_record.specs.Follow.{Nothing}
use Rattle.world_operations.specs.Follow.{SendsSome}
use Rattle.world_operations.specs.Moves.{Takes, sent_to}
use Rattle.world_operations.proofs.Frames.{sends_none, sends_one}
use Rattle.world_operations.proofs.TaskMoves.{same_goes, taken}
use Rattle.world_operations.proofs.operation.send_one.Goals as goal

pub returns-in_err-to-clause-some : goal.returns-in_err-to-clause-some
returns-in_err-to-clause-some c =
    sends_none Nothing c.args.node c.args.task.now c.take_outgoing.new.self c.args.sent.now.items (same_goes Nothing c.args.task.now c.take_outgoing.new.self c.in_err-to.ensures.same)

pub returns-in_default-clause-some : goal.returns-in_default-clause-some
returns-in_default-clause-some c =
    sends_none Nothing c.args.node c.args.task.now c.take_outgoing.new.self c.args.sent.now.items (taken c.args.task.now c.take_outgoing.new.self c.in_ok-to.field-0 c.in_ok-to.ensures.ok)

pub returns-in_err-spell-clause-some : goal.returns-in_err-spell-clause-some
returns-in_err-spell-clause-some c =
    sends_none Nothing c.args.node c.args.task.now c.take_outgoing.new.self c.args.sent.now.items (taken c.args.task.now c.take_outgoing.new.self c.in_ok-to.field-0 c.in_ok-to.ensures.ok)

pub returns-in_err-push_sent-clause-some : goal.returns-in_err-push_sent-clause-some
returns-in_err-push_sent-clause-some c =
    subst (SendsSome Nothing c.args.node c.args.task.now c.take_outgoing.new.self c.args.sent.now.items) (sym c.in_err-push_sent.ensures.err)
    (sends_none Nothing c.args.node c.args.task.now c.take_outgoing.new.self c.args.sent.now.items (taken c.args.task.now c.take_outgoing.new.self c.in_ok-to.field-0 c.in_ok-to.ensures.ok))

pub returns-clause-one : goal.returns-clause-one
returns-clause-one c =
    let t : Takes c.args.task.now (Some (c.in-Some.to, c.in-Some.message)) c.take_outgoing.new.self = subst (λ (f : Option (ℕ × Message)). Takes c.args.task.now f c.take_outgoing.new.self) c.in-Some.is c.in_ok-to.ensures.ok in
    let pushed : c.push_sent.new.all.items ≡ c.args.sent.now.items ++ sent_to c.args.node c.in-Some.to c.in-Some.message ∷ [] = c.in_ok-push_sent.ensures.ok ∙ ap (λ (x : Sent). c.args.sent.now.items ++ x ∷ []) c.in_ok-spell.ensures.value in
    (c.in-Some.to, c.in-Some.message, t, c.spell.ensures.right, pushed)

pub returns-clause-some : goal.returns-clause-some
returns-clause-some c =
    let t : Takes c.args.task.now (Some (c.in-Some.to, c.in-Some.message)) c.take_outgoing.new.self = subst (λ (f : Option (ℕ × Message)). Takes c.args.task.now f c.take_outgoing.new.self) c.in-Some.is c.in_ok-to.ensures.ok in
    let pushed : c.push_sent.new.all.items ≡ c.args.sent.now.items ++ sent_to c.args.node c.in-Some.to c.in-Some.message ∷ [] = c.in_ok-push_sent.ensures.ok ∙ ap (λ (x : Sent). c.args.sent.now.items ++ x ∷ []) c.in_ok-spell.ensures.value in
    subst (SendsSome Nothing c.args.node c.args.task.now c.take_outgoing.new.self c.args.sent.now.items) (sym pushed)
    (sends_one c.args.node c.in-Some.to c.in-Some.message c.args.task.now c.take_outgoing.new.self c.args.sent.now.items t c.spell.ensures.right)
