use Rattle.std.proofs.Common.{◌≡◌, ◌+◌, ℕ, inl, inr, subst, arith}
use Rattle.std.proofs.lemmas.Bool.{cases_lt}
use Rattle.download_segments.proofs.RowLemmas.{row_there}
use Rattle.download_file.specs.Steps.{HasAll}
use Rattle.download_file.proofs.RowLemmas.{lacks_not}
use Rattle.download_file.proofs.row.has_row.Goals as goal

pub has_all-requires-clause-there : goal.has_all-requires-clause-there
has_all-requires-clause-there c =
    row_there c.args.handout.now c.args.number c.loop-i.i c.wants_row.ensures.right (c.wants_row.ensures.wanted.0 c.if-not-wants_row.false) c.loop-i-test.true

pub returns-then-not-has_all-clause-no : goal.returns-then-not-has_all-clause-no
returns-then-not-has_all-clause-no c = λ _ has.
    lacks_not c.args.handout.now c.args.readers.now c.args.live.now (c.args.number + c.loop-i.i) (c.has_all.ensures.no c.if-not-has_all.true)
    (has.all c.loop-i.i c.loop-i-test.true)

pub loop-i-preserved : goal.loop-i-preserved
loop-i-preserved c = λ j low. elim (cases_lt j c.loop-i.i) [
  | inl less ↦ c.loop-i.invariant j less
  | inr more ↦
      let same : c.loop-i.i ≡ j = omega (arith, low, more) in
      subst (λ (i : ℕ). HasAll c.args.handout.now c.args.readers.now c.args.live.now (c.args.number + i)) same (c.has_all.ensures.yes c.if-not-has_all.false)
]

pub returns-clause-yes : goal.returns-clause-yes
returns-clause-yes c = λ _.
    let end = c.loop-i-test.false in
    record {
      wanted = c.wants_row.ensures.wanted.0 c.if-not-wants_row.false;
      all = λ i low. c.loop-i.invariant i (omega (arith, end, low));
    }
