use Rattle.std.proofs.Common.{eqb-true, sym, subst}
use Rattle.file_encoding.proofs.LowestShares.{at_position}
use Rattle.file_encoding.proofs.selection.is_sound_at.Goals as goal

pub returns-then-other-number : goal.returns-then-other-number
returns-then-other-number c =
    let same = at_position c.args.cap.now c.args.shares.now c.args.number c.args.position _ c.requires in (
      λ yes. subst (λ (T : Type 0). T) (sym same) (c.if-other-number.true, c.is_sound.ensures.0 yes),
      λ passes. c.is_sound.ensures.1 (subst (λ (T : Type 0). T) same passes).1,
    )

pub returns-else-other-number : goal.returns-else-other-number
returns-else-other-number c =
    let same = at_position c.args.cap.now c.args.shares.now c.args.number c.args.position _ c.requires in (
      λ yes. absurd (c.if-other-number.false (eqb-true _ _ yes)),
      λ passes. absurd (c.if-other-number.false (subst (λ (T : Type 0). T) same passes).0),
    )
