use Rattle.std.proofs.Common.{◌∙◌, List, ℕ, sym, subst}
use Rattle.std.proofs.lemmas.Bool.{both_ways}
use Rattle.ueb.specs.Reading.{HasSuiting, Differs, Suits}
use Rattle.ueb.proofs.KeyOrder.{key_at, first_here, all_of_them}
use Rattle.ueb.proofs.Refusals.{suiting_not_different, text_same, some_is_some}
use Rattle.ueb.proofs.reading.first_to_differ.Goals as goal

pub returns-in_default : goal.returns-in_default
returns-in_default c fields a =
    first_here (Differs c.args.block.now fields) (HasSuiting c.args.block.now fields) c.loop-key.key-index c.loop-key-test.true (suiting_not_different c.args.block.now fields) (c.loop-key.invariant fields a)
    (λ value there s. some_is_some value (sym there ∙ c.in_default.ensures fields a))

pub returns-then-not-suits : goal.returns-then-not-suits
returns-then-not-suits c fields a =
    first_here (Differs c.args.block.now fields) (HasSuiting c.args.block.now fields) c.loop-key.key-index c.loop-key-test.true (suiting_not_different c.args.block.now fields) (c.loop-key.invariant fields a)
    (λ value there s.
    let same = text_same value c.in-Some.value.now (sym there ∙ c.in-Some.ensures fields a) in
    both_ways _ c.if-not-suits.true (c.suits.ensures.1 (subst (λ (v : List ℕ). Suits c.args.block.now (key_at c.loop-key.key-index) v) same s)))

pub returns : goal.returns
returns c fields a = all_of_them (HasSuiting c.args.block.now fields) c.loop-key.key-index c.loop-key-test.false (c.loop-key.invariant fields a)
