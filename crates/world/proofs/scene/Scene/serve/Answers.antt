use Rattle.std.proofs.Common.{◌∙◌, ◌++◌, ◌∷◌, [], Ok, Some, ap, subst}
use Rattle.server_core.specs.ServerState.{Outcome}
use Rattle.world_operations.specs.declared.message.Sent.{Sent}
use Rattle.lemmas.proofs.Results.{on_ok}
use Rattle.world.specs.Parts.{ServerBecomes, ServesBy}
use Rattle.world.specs.State.{state_of}
use Rattle.world.proofs.Moving.{served_gets, served_keeps, served_only}
use Rattle.world.proofs.scene.Scene.serve.Goals as goal

pub returns-in_err-spell-in-Ok-Some-clause-keeps : goal.returns-in_err-spell-in-Ok-Some-clause-keeps
returns-in_err-spell-in-Ok-Some-clause-keeps c x sender receiver there spelled =
    served_only (state_of c.args.self.now) c.from.result c.args.from c.args.message.now c.serve_at.result c.serve_at.new.servers.items c.serve_at.ensures

pub returns-in_ok-spell-in-Ok-Some-clause-ok : goal.returns-in_ok-spell-in-Ok-Some-clause-ok
returns-in_ok-spell-in-Ok-Some-clause-ok c =
    let w = state_of c.args.self.now in
    let b : ServerBecomes (ServesBy c.args.from c.args.message.now w.clock (Ok (Some c.in-Ok-Some.answer))) w.servers c.from.result c.serve_at.new.servers.items =
    subst (λ (o : Outcome). ServerBecomes (ServesBy c.args.from c.args.message.now w.clock o) w.servers c.from.result c.serve_at.new.servers.items) (c.in-Ok-Some.is ∙ ap Ok c.in-Ok-Some.field-0-is) c.serve_at.ensures in
    on_ok c.push_sent.result _ _
    (λ more x sender receiver. served_gets w x c.args.message.now c.in-Ok-Some.answer c.args.from c.args.to c.from.result c.serve_at.new.servers.items c.push_sent.new.all.items sender receiver
    c.from.ensures b c.spell.ensures.right (more ∙ ap (λ (s : Sent). w.sent ++ s ∷ []) c.in_ok-spell-in-Ok-Some.ensures.value)) c.push_sent.ensures.ok

pub returns-in_ok-spell-in-Ok-Some-clause-keeps : goal.returns-in_ok-spell-in-Ok-Some-clause-keeps
returns-in_ok-spell-in-Ok-Some-clause-keeps c x sender receiver there spelled =
    let w = state_of c.args.self.now in
    let b : ServerBecomes (ServesBy c.args.from c.args.message.now w.clock (Ok (Some c.in-Ok-Some.answer))) w.servers c.from.result c.serve_at.new.servers.items =
    subst (λ (o : Outcome). ServerBecomes (ServesBy c.args.from c.args.message.now w.clock o) w.servers c.from.result c.serve_at.new.servers.items) (c.in-Ok-Some.is ∙ ap Ok c.in-Ok-Some.field-0-is) c.serve_at.ensures in
    served_keeps w x c.args.message.now c.in-Ok-Some.answer c.args.from c.args.to c.from.result c.serve_at.new.servers.items c.push_sent.new.all.items c.push_sent.result sender receiver
    c.from.ensures b c.spell.ensures.right (on_ok c.push_sent.result _ _ (λ more. more ∙ ap (λ (s : Sent). w.sent ++ s ∷ []) c.in_ok-spell-in-Ok-Some.ensures.value) c.push_sent.ensures.ok) c.push_sent.ensures.err there spelled

pub returns-in-Err-OutOfMemory-clause-keeps : goal.returns-in-Err-OutOfMemory-clause-keeps
returns-in-Err-OutOfMemory-clause-keeps c x sender receiver there spelled =
    served_only (state_of c.args.self.now) c.from.result c.args.from c.args.message.now c.serve_at.result c.serve_at.new.servers.items c.serve_at.ensures

pub returns-in-Ok-None-clause-keeps : goal.returns-in-Ok-None-clause-keeps
returns-in-Ok-None-clause-keeps c x sender receiver there spelled =
    served_only (state_of c.args.self.now) c.from.result c.args.from c.args.message.now c.serve_at.result c.serve_at.new.servers.items c.serve_at.ensures

pub returns-in-Ok-None-2-clause-keeps : goal.returns-in-Ok-None-2-clause-keeps
returns-in-Ok-None-2-clause-keeps c x sender receiver there spelled =
    served_only (state_of c.args.self.now) c.from.result c.args.from c.args.message.now c.serve_at.result c.serve_at.new.servers.items c.serve_at.ensures
