use Rattle.std.proofs.Common.{◌∙◌, ◌++◌, ◌∷◌, [], List, ℕ, true, false, ap, sym}
use Rattle.std.proofs.lemmas.List.{append-nil}
use Rattle.grid_rules.specs.ReportJson.{is_missing, missing}
use Rattle.grid_rules.proofs.Numbers.{more}
use Rattle.grid_rules.proofs.checking_json.missing_shares.Goals as goal
use Rattle.grid_rules.proofs.checking_json.missing_shares.Goals.{then-is_missing+in_ok-push, else-is_missing}

pub loop-number-preserved : goal.loop-number-preserved
loop-number-preserved c =
    let verdicts = c.as_slice-verdicts.result.now in
    let n = c.loop-number.number in
    elim c.if-is_missing.branch [
      | then-is_missing+in_ok-push w ↦
          ap (λ v. v.items) w.numbers-is ∙ w.in_ok-push.ensures.items
          ∙ ap (λ (xs : List ℕ). xs ++ n ∷ []) c.loop-number.invariant
          ∙ sym (more (is_missing verdicts) n true (sym c.is_missing.ensures ∙ w.if-is_missing.true))
      | else-is_missing w ↦
          ap (λ v. v.items) w.numbers-is ∙ c.loop-number.invariant
          ∙ sym (append-nil (missing verdicts n))
          ∙ sym (more (is_missing verdicts) n false (sym c.is_missing.ensures ∙ w.if-is_missing.false))
    ]
