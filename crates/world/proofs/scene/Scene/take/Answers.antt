use Rattle.std.proofs.Common.{ℕ, ◌<◌, ◌∙◌, length, subst, sym}
use Rattle.lemmas.proofs.Results.{on_ok}
use Rattle.world.specs.Step.{answer, request}
use Rattle.world.proofs.scene.Scene.take.Goals as goal

pub returns-then-is_request-clause-ok : goal.returns-then-is_request-clause-ok
returns-then-is_request-clause-ok c =
    on_ok c.serve.result _ _
    (λ g x sender receiver spelled. request c.args.message (subst (λ (n : ℕ). n < length c.args.self.now.servers.items) (sym receiver) c.requires) spelled
    (sym c.is_request.ensures ∙ c.if-is_request.true) (g x sender receiver)) c.serve.ensures.ok

pub returns-clause-ok : goal.returns-clause-ok
returns-clause-ok c =
    on_ok c.answer.result _ _
    (λ g x sender receiver spelled. answer c.args.message (subst (λ (n : ℕ). n < length c.args.self.now.servers.items) (sym receiver) c.requires) spelled
    (sym c.is_request.ensures ∙ c.if-is_request.false) (g x sender receiver)) c.answer.ensures.ok
