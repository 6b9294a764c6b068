use Rattle.std.proofs.Common.{◌≡◌, ℕ, List, Bool, true, false}
use Rattle.std.specs.Prelude.{IsUtf8}
use Rattle.std.proofs.lemmas.Result.{IfOk-weaker}
use Rattle.grid_surveys.specs.Looks.{IsJsonName, json_name}
use Rattle.grid_surveys.proofs.objects.json_name.Goals as goal

plain : (name text : List ℕ) → IsUtf8 name → text ≡ json_name false name → IsJsonName name text
plain name text utf8 is = record { odd = false; utf8 = λ same. utf8; other = λ same. absurd (false_true same); is = is } where
  false_true : ◌≡◌ {A = Bool} false true → ⊥
  false_true e = cc

strange : (name text : List ℕ) → ¬ (IsUtf8 name) → text ≡ json_name true name → IsJsonName name text
strange name text other is = record { odd = true; utf8 = λ same. absurd (true_false same); other = λ same. other; is = is } where
  true_false : ◌≡◌ {A = Bool} true false → ⊥
  true_false e = cc

pub returns-in-Ok : goal.returns-in-Ok
returns-in-Ok c = IfOk-weaker c.written.result _ _ (λ text is. plain _ _ c.in-Ok.ensures.cases.1 is) c.written.ensures

pub returns-in-Err : goal.returns-in-Err
returns-in-Err c = IfOk-weaker c.written-in-Err.result _ _ (λ text is. strange _ _ c.in-Err.ensures.cases.0 is) c.written-in-Err.ensures
