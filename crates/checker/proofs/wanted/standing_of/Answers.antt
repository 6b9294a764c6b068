use Rattle.std.proofs.Common.{subst, sym, ◌∙◌, arith, true≢false}
use Rattle.lemmas.proofs.Positions.{got}
use Rattle.checker.proofs.AheadLemmas.{AreSeen, seen_all, seen_lost, seen_more, seen_none}
use Rattle.checker.proofs.wanted.standing_of.Goals as goal

pub loop-i-init : goal.loop-i-init
loop-i-init c = seen_none c.args.wanted.now.items

pub index-requires : goal.index-requires
index-requires c = omega (arith, c.loop-i-test.true, c.len-i-end.ensures)

pub returns-then-waits-clause-waits : goal.returns-then-waits-clause-waits
returns-then-waits-clause-waits c = λ _. (
  c.loop-i.i,
  c.index.result.now,
  got c.args.wanted.now.items c.loop-i.i c.index.result.now (omega (arith, c.loop-i-test.true, c.len-i-end.ensures, c.args.wanted.now.ok.0)) c.index.ensures,
  c.waits.ensures.0 c.if-waits.true,
)

pub loop-i-preserved : goal.loop-i-preserved
loop-i-preserved c =
    seen_more c.args.wanted.now.items c.loop-i.i c.loop-i.is_lost c.loses-is_lost.result c.index.result.now c.loop-i.invariant
    (got c.args.wanted.now.items c.loop-i.i c.index.result.now (omega (arith, c.loop-i-test.true, c.len-i-end.ensures, c.args.wanted.now.ok.0)) c.index.ensures)
    (λ waits. true≢false (sym (c.waits.ensures.1 waits) ∙ c.if-waits.false)) c.loses-is_lost.ensures.yes c.loses-is_lost.ensures.no

pub returns-then-is_lost-clause-lost : goal.returns-then-is_lost-clause-lost
returns-then-is_lost-clause-lost c = λ _.
    seen_lost c.args.wanted.now.items c.loop-i.i (omega (arith, c.loop-i-test.false, c.len-i-end.ensures, c.args.wanted.now.ok.0))
    (subst (AreSeen c.args.wanted.now.items c.loop-i.i) c.if-is_lost.true c.loop-i.invariant)

pub returns-else-is_lost-clause-came : goal.returns-else-is_lost-clause-came
returns-else-is_lost-clause-came c = λ _.
    seen_all c.args.wanted.now.items c.loop-i.i (omega (arith, c.loop-i-test.false, c.len-i-end.ensures, c.args.wanted.now.ok.0))
    (subst (AreSeen c.args.wanted.now.items c.loop-i.i) c.if-is_lost.false c.loop-i.invariant)
