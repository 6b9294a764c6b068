use Rattle.std.proofs.Common.{◌∙◌, ◌+◌, ap, sym, arith}
use Rattle.std.specs.Prelude.{nat_eq}
use Rattle.std.specs.Set.{is_member}
use Rattle.placement.specs.Matching.{shares_of}
use Rattle.checker.proofs.FoundLemmas.{count_no, count_yes}
use Rattle.checker.proofs.report.good_numbers.Goals.{then-has_number, else-has_number}
use Rattle.checker.proofs.report.good_numbers.Goals as goal

pub loop-number-preserved : goal.loop-number-preserved
loop-number-preserved c =
    let test = is_member nat_eq (shares_of c.args.pairs.now) in
    elim c.if-has_number.branch [
      | then-has_number w ↦ (
        w.count-is ∙ ap (λ n. n + 1) c.loop-number.invariant.0 ∙ sym (count_yes test c.loop-number.number (sym c.has_number.ensures ∙ w.if-has_number.true)),
        omega (arith, w.count-is, c.loop-number.invariant.1),
      )
      | else-has_number w ↦ (
        w.count-is ∙ c.loop-number.invariant.0 ∙ sym (count_no test c.loop-number.number (sym c.has_number.ensures ∙ w.if-has_number.false)),
        omega (arith, w.count-is, c.loop-number.invariant.1),
      )
    ]
