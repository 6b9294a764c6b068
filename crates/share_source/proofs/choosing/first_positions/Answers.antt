use Rattle.std.proofs.Common.{◌≡◌, ℕ, ◌+◌, ◌<◌, ◌++◌, ◌∷◌, [], Contains, List, length, ap, sym, subst, ◌∙◌, arith, true≢false}
use Rattle.std.specs.Prelude.{slice_index}
use Rattle.share_source.specs.Candidates.{picked_numbers}
use Rattle.share_source.proofs.Chosen.{AreChosen, chosen_more, chosen_same}
use Rattle.share_source.proofs.choosing.first_positions.Goals as goal
use Rattle.share_source.proofs.choosing.first_positions.Goals.{then-len-needed+then-not-is_among+in_ok-push, else-len-needed, else-len-needed-via-then-len-needed+else-not-is_among, else-len-needed-via-else-len-needed}

pub loop-position-preserved : goal.loop-position-preserved
loop-position-preserved c =
    let shares : List ℕ = c.args.numbers.now in
    let at : ℕ = c.loop-position.position in
    let positions : List ℕ = c.loop-position.positions.items in
    let needed : ℕ = c.args.needed in
    let n : ℕ = slice_index shares at in
    elim c.if-len-needed.branch [
      | then-len-needed+then-not-is_among+in_ok-push w ↦ (
          let none : ¬ Contains (picked_numbers shares positions) (slice_index shares at) =
          λ has. true≢false (sym (w.is_among.ensures.1 (subst (λ (ps : List ℕ). Contains (picked_numbers shares ps) n) (sym w.deref.ensures.value) has)) ∙ w.if-not-is_among.true) in
          let items : c.if-len-needed.positions.items ≡ positions ++ at ∷ [] = ap (λ v. v.items) w.positions-is ∙ w.in_ok-push.ensures.items in
          subst (AreChosen shares needed (at + 1)) (sym items)
          (chosen_more shares needed at positions c.loop-position.invariant c.loop-position-test.true (omega (arith, w.if-len-needed.true, c.len.ensures, c.loop-position.positions.ok.0)) none))
      | else-len-needed w ↦ (
          let items : c.if-len-needed.positions.items ≡ positions = ap (λ v. v.items) w.positions-is in
          let has : length positions < needed → Contains (picked_numbers shares positions) (slice_index shares at) = (λ few. elim w.else-len-needed.branch [
            | else-len-needed-via-then-len-needed+else-not-is_among v ↦
                subst (λ (ps : List ℕ). Contains (picked_numbers shares ps) n) v.deref.ensures.value (v.is_among.ensures.0 v.if-not-is_among.false)
            | else-len-needed-via-else-len-needed v ↦ absurd (omega (arith, v.if-len-needed.false, few, c.len.ensures, c.loop-position.positions.ok.0))
          ]) in
          subst (AreChosen shares needed (at + 1)) (sym items) (chosen_same shares needed at positions c.loop-position.invariant has))
    ]
