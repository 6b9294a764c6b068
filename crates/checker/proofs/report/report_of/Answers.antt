use Rattle.std.proofs.Common.{◌≡◌, ◌∙◌, ◌↔◌, ◌≤◌, ℕ, List, Bool, true, eqb, leb, length, ap, sym, subst, rules, arith}
use Rattle.std.specs.Prelude.{IsTrue, nat_eq, count_by}
use Rattle.std.specs.List.{flat_map, range_with_len}
use Rattle.std.specs.Set.{is_member}
use Rattle.std.proofs.lemmas.Bool.{eq-eqb, eqb-true, le-leb, leb-true}
use Rattle.placement.specs.Matching.{IsLargestMatching, Pair, shares_of}
use Rattle.checker.specs.Found.{found_among}
use Rattle.checker.specs.Report.{AreVerdicts, good_numbers, good_pairs}
use Rattle.checker.specs.declared.status.ShareVerdict.{ShareVerdict}
use Rattle.checker.proofs.FoundLemmas.{are_verdicts}
use Rattle.checker.proofs.report.report_of.Goals as goal

to_true : (b : Bool) → IsTrue b → b ≡ true
to_true b t = search rules

of_true : (b : Bool) → b ≡ true → IsTrue b
of_true b e = search rules

same_iff : (a b x y : ℕ) → a ≡ x → b ≡ y → IsTrue (eqb a b) ↔ (x ≡ y)
same_iff a b x y e f = (λ t. sym e ∙ eqb-true a b (to_true (eqb a b) t) ∙ f, λ g. of_true (eqb a b) (eq-eqb a b (e ∙ g ∙ sym f)))

least_iff : (a b x y : ℕ) → a ≡ x → b ≡ y → IsTrue (leb a b) ↔ (x ≤ y)
least_iff a b x y e f = (λ t. omega (arith, leb-true a b (to_true (leb a b) t), e, f), λ g. of_true (leb a b) (le-leb a b (omega (arith, g, e, f))))

pub returns : goal.returns
returns c =
    let m = c.args.machine.now in
    let found : List ShareVerdict = flat_map (found_among m.offers.items) m.told.items in
    let list = c.from_vec.ensures ∙ c.in_ok-verdicts.ensures in
    let pairs = c.in_ok-good.ensures ∙ ap good_pairs (c.deref.ensures.value ∙ c.in_ok-verdicts.ensures ∙ sym list) in
    let numbers = c.good_numbers-numbers.ensures
    ∙ ap (λ (l : List Pair). count_by (is_member nat_eq (shares_of l)) (range_with_len 0 c.total.result)) (c.deref-2.ensures.value ∙ pairs)
    ∙ ap (λ n. good_numbers n c.from_vec.result) c.total.ensures.value in
    record {
      verdicts = subst (AreVerdicts m.cap m.requests.entries) (sym list) (are_verdicts m c.requires.done);
      healthy = same_iff _ _ _ _ numbers c.total-2.ensures.value;
      recoverable = least_iff _ _ _ _ c.needed.ensures.value numbers;
      happiness = subst (λ (l : List Pair). (chosen : List Pair) × IsLargestMatching l chosen × (c.in_ok-happiness_of.field-0 ≡ length chosen)) (c.deref-3.ensures.value ∙ pairs) c.in_ok-happiness_of.ensures;
    }
