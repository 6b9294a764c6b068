use Rattle.std.proofs.Common.{[], refl, sym, inl, inr, ◌∙◌}
use Rattle.request_record.specs.Follow.{Nothing}
use Rattle.world_operations.proofs.Positions.{append_none}
use Rattle.lemmas.proofs.Results.{on_ok}
use Rattle.world_operations.proofs.Sending.{moves_nowhere}
use Rattle.world.proofs.parts.tick_one.Goals as goal

pub returns-then-not-is_live_at-clause-some : goal.returns-then-not-is_live_at-clause-some
returns-then-not-is_live_at-clause-some c = moves_nowhere Nothing c.args.operation.now c.args.sent.now.items

pub returns-then-not-is_live_at-clause-ok : goal.returns-then-not-is_live_at-clause-ok
returns-then-not-is_live_at-clause-ok c = ([], sym (append_none c.args.sent.now.items), inr (sym c.is_live_at.ensures ∙ c.if-not-is_live_at.true, refl, refl))

pub returns-clause-ok : goal.returns-clause-ok
returns-clause-ok c = on_ok c.tick.result _ _ (λ t. (t.0, t.1, inl (sym c.is_live_at.ensures ∙ c.if-not-is_live_at.false, t.2))) c.tick.ensures.ok
