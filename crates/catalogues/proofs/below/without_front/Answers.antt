use Rattle.std.proofs.Common.{List, ℕ, ap, sym, ◌∙◌}
use Rattle.catalogues.specs.Patterns.{behind_front}
use Rattle.catalogues.proofs.BelowLaws.{one_more, one_less, all_left}
use Rattle.catalogues.proofs.PatternLaws.{front_piece, no_piece_left}
use Rattle.catalogues.proofs.below.without_front.Goals as goal

pub loop-after-preserved : goal.loop-after-preserved
loop-after-preserved c =
    let so_far = c.loop-after.invariant in
    let has = c.in-Some.ensures in record {
      front = one_more c.args.name.now so_far.front.0 has.0 c.loop-after.rest.now c.in-Some.after.now so_far.front.1.0 so_far.front.1.1 has.1.0 has.1.1;
      only = λ front rest behind.
          let left = so_far.only front rest behind in
          one_less c.loop-after.rest.now has.0 c.in-Some.after.now left.0 rest has.1.0 has.1.1 left.1;
      same = sym (front_piece has.0 c.in-Some.after.now has.1.0) ∙ sym (ap (λ (t : List ℕ). behind_front t) has.1.1) ∙ so_far.same;
    }

pub returns-clause-is : goal.returns-clause-is
returns-clause-is c = no_piece_left c.loop-after.rest.now c.in_default.ensures ∙ c.loop-after.invariant.same

pub returns-clause-only : goal.returns-clause-only
returns-clause-only c = λ front rest behind.
    let left = c.loop-after.invariant.only front rest behind in
    all_left c.loop-after.rest.now left.0 rest c.in_default.ensures left.1
