-- What a check and a repair come to.
use Rattle.std.proofs.Common.{◌≡◌, false, ℕ, Option, Some, None, Result, Ok, Err, IfOk, IfSome, ap, sym, subst, ◌∙◌}
use Rattle.std.specs.Option.{ok_or}
use Rattle.cap_text.specs.Cap.{VerifyCapValue}
use Rattle.cap_text.specs.CapText.{Spells}
use Rattle.cap_text.specs.declared.cap.Cap.{Cap}
use Rattle.checker.specs.declared.status.Report.{Report}
use Rattle.grid_faults.specs.declared.fault.Fault.{Fault}
use Rattle.grid_rules.specs.ReportLines.{report_status}
use Rattle.grid_servers.specs.Grids.{GridCalls}
use Rattle.grid_shares.specs.Puts.{stored_status}
use Rattle.grid_shares.specs.declared.Outcome.{Outcome}
use Rattle.grid_shares.specs.declared.placing.Stored.{Stored}
use Rattle.grid_words.specs.declared.words.CheckWords.{CheckWords}
use Rattle.grid_words.specs.declared.words.RepairWords.{RepairWords}
use Rattle.grid_repairs.specs.Checks.{IsCheckBy, IsCheckFor, IsCheckedBy, check_text, verify_of}
use Rattle.grid_repairs.specs.Repairs.{IsRepairBy, IsRepairFor, IsRepairedBy, happiness_text}

-- what is there is handed out
pub told_ok : {A E : Type 0} (o : Option A) (e : E) (r : Result A E) (P Q : A → Type 0) → r ≡ ok_or o e → ((a : A) → P a → Q a) → IfSome o P → IfOk r Q
told_ok (Some a) e r P Q is weaker p = subst (λ (x : Result _ _). IfOk x Q) (sym is) (weaker a p)
told_ok None e r P Q is weaker p = subst (λ (x : Result _ _). IfOk x Q) (sym is) tt

-- the same of whatever is there
pub led_ok : {A E : Type 0} (r : Result A E) (P : Type 0) → P → IfOk r (λ _. P)
led_ok (Ok a) P p = p
led_ok (Err e) P p = tt

module _ {S : Type 0} (calls : GridCalls S) where
  -- what a check tells by its words
  pub check_told : (words : CheckWords) (read : Cap) (of : Option VerifyCapValue) (cap : VerifyCapValue) (report : Report) (total : ℕ) → Spells words.cap.now read → of ≡ verify_of read → of ≡ Some cap
      → total ≡ cap.total → IsCheckedBy calls words.grid.now false cap report → (r : Result Outcome Fault) → IfOk r (λ o. o.text.items ≡ check_text report total words.json)
      → IfOk r (λ o. o.status ≡ report_status report words.strict) → IfOk r (IsCheckBy calls words)
  check_told words read of cap report total spelled is some same checked (Ok outcome) told status = record {
    cap = read;
    spelled = spelled;
    told = subst (λ (x : Option VerifyCapValue). IsCheckFor calls words x outcome) (sym some ∙ is)
        (record { report = report; checked = checked; told = told ∙ ap (λ (n : ℕ). check_text report n words.json) same; status_is = status });
  }
  check_told words read of cap report total spelled is some same checked (Err fault) told status = tt

  -- what a repair tells by its words
  pub repair_told : (words : RepairWords) (read : Cap) (of : Option VerifyCapValue) (cap : VerifyCapValue) (stored : Stored) → Spells words.cap.now read → of ≡ verify_of read → of ≡ Some cap
      → IsRepairedBy calls words.grid.now false false words.mend words.happy cap stored → (r : Result Outcome Fault) → IfOk r (λ o. o.text.items ≡ happiness_text stored.happiness)
      → IfOk r (λ o. o.status ≡ stored_status stored.is_cleared) → IfOk r (IsRepairBy calls words)
  repair_told words read of cap stored spelled is some repaired (Ok outcome) told status = record {
    cap = read;
    spelled = spelled;
    told = subst (λ (x : Option VerifyCapValue). IsRepairFor calls words x outcome) (sym some ∙ is) (record { stored = stored; repaired = repaired; told = told; status_is = status });
  }
  repair_told words read of cap stored spelled is some repaired (Err fault) told status = tt
