use Rattle.std.proofs.Common.{inl, inr, subst, arith}
use Rattle.block_making.specs.Slots.{Keeps, Slots}
use Rattle.block_making.proofs.Kept.{set-kept, set-others}
use Rattle.block_making.proofs.slots.BlockSlots.put.Goals as goal

pub returns-then-position-len-clause-others : goal.returns-then-position-len-clause-others
returns-then-position-len-clause-others c = λ block keeps.
    elim (set-others c.self.inside.slots.items c.position_of-position.result c.set.new.self _ c.set.ensures.held block keeps) [
      | inl new ↦ inl new
      | inr old ↦ inr (subst (λ (s : Slots). Keeps s.blocks block) c.self.view_is old)
    ]

pub returns-then-position-len-clause-kept : goal.returns-then-position-len-clause-kept
returns-then-position-len-clause-kept c = λ _.
    set-kept c.self.inside.slots.items c.position_of-position.result c.set.new.self _ c.set.ensures.held (omega (arith, c.if-position-len.true, c.len.ensures))
