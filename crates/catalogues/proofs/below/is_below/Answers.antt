use Rattle.std.proofs.Common.{refl}
use Rattle.std.proofs.lemmas.Bool.{false≢true}
use Rattle.catalogues.proofs.BelowLaws.{below_rest, below_more, below_one, one_below}
use Rattle.catalogues.proofs.below.is_below.Goals as goal

pub returns-then-not-is_part : goal.returns-then-not-is_part
returns-then-not-is_part c = (
  λ nothing. absurd (false≢true nothing),
  λ below.
      let parts = below_rest c.loop-part.rest.now c.in-Some.part.now c.in-Some.after.now c.in-Some.ensures.0 c.in-Some.ensures.1 (c.loop-part.invariant.rest below) in
      absurd (false≢true (c.if-not-is_part.ensures.1 parts.0)),
)

pub loop-part-preserved : goal.loop-part-preserved
loop-part-preserved c = record {
  whole = λ below. c.loop-part.invariant.whole
      (below_more c.loop-part.rest.now c.in-Some.part.now c.in-Some.after.now c.in-Some.ensures.0 c.in-Some.ensures.1 (c.if-not-is_part.ensures.0 refl) below);
  rest = λ below.
      (below_rest c.loop-part.rest.now c.in-Some.part.now c.in-Some.after.now c.in-Some.ensures.0 c.in-Some.ensures.1 (c.loop-part.invariant.rest below)).1;
}

pub returns : goal.returns
returns c = (
  λ part. c.loop-part.invariant.whole (below_one c.loop-part.rest.now c.in_default.ensures (c.is_part-2.ensures.0 part)),
  λ below. c.is_part-2.ensures.1 (one_below c.loop-part.rest.now c.in_default.ensures (c.loop-part.invariant.rest below)),
)
