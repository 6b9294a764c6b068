use Rattle.std.proofs.Common.{◌∙◌, ap, not}
use Rattle.ueb.specs.Reading.{IsMissing}
use Rattle.ueb.proofs.KeyOrder.{first_here, all_of_them}
use Rattle.ueb.proofs.Refusals.{at_none}
use Rattle.ueb.proofs.reading.first_missing.Goals as goal

pub returns-then-is_none : goal.returns-then-is_none
returns-then-is_none c fields a =
    first_here (IsMissing fields) (λ key. IsMissing fields key → ⊥) c.loop-key.key-index c.loop-key-test.true (λ key there missing. there missing) (c.loop-key.invariant fields a)
    (at_none _ _ c.value_in.result (c.is_none.ensures ∙ ap not c.if-is_none.true) (c.value_in.ensures fields a))

pub returns : goal.returns
returns c fields a = all_of_them (λ key. IsMissing fields key → ⊥) c.loop-key.key-index c.loop-key-test.false (c.loop-key.invariant fields a)
