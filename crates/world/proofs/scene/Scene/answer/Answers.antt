use Rattle.std.proofs.Common.{refl, ◌≡◌, ◌∙◌, Some, rules, sym}
use Rattle.std.specs.Prelude.{slice_get}
use Rattle.lemmas.proofs.Results.{on_ok}
use Rattle.world.specs.State.{state_of}
use Rattle.world.proofs.Moving.{at_position, task_gets, task_keeps}
use Rattle.world.proofs.Preserving.{preserves_quiet}
use Rattle.world.proofs.scene.Scene.answer.Goals as goal

pub returns-clause-ok : goal.returns-clause-ok
returns-clause-ok c =
    let w = state_of c.args.self.now in
    let at : slice_get w.operations c.args.message.session ≡ Some c.index.result.now = at_position w.operations c.args.message.session c.index.result.now (search rules) c.index.ensures in
    on_ok c.answer_at.result _ _
    (λ b x sender receiver. task_gets w x c.args.message c.args.from c.args.to c.index.result.now c.answer_at.new.operations.items c.answer_at.new.sent.items sender receiver at
    (sym c.is_live_at.ensures ∙ c.if-not-is_live_at.false) b) c.answer_at.ensures.ok

pub returns-clause-keeps : goal.returns-clause-keeps
returns-clause-keeps c x sender receiver there spelled =
    let w = state_of c.args.self.now in
    let at : slice_get w.operations c.args.message.session ≡ Some c.index.result.now = at_position w.operations c.args.message.session c.index.result.now (search rules) c.index.ensures in
    task_keeps w x c.args.message c.args.from c.args.to c.index.result.now c.answer_at.new.operations.items c.answer_at.new.sent.items sender receiver at
    (sym c.is_live_at.ensures ∙ c.if-not-is_live_at.false) c.answer_at.ensures.some there spelled

pub returns-then-position-len-clause-keeps : goal.returns-then-position-len-clause-keeps
returns-then-position-len-clause-keeps c x sender receiver there spelled = preserves_quiet _ _ refl refl refl refl
