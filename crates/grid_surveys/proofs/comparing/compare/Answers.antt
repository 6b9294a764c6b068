use Rattle.std.proofs.Common.{List, ℕ, subst}
use Rattle.std.proofs.lemmas.Result.{IfOk-weaker}
use Rattle.grid_surveys.specs.Verdicts.{IsOfBytes, held, opened}
use Rattle.grid_surveys.proofs.comparing.compare.Goals as goal

pub returns-in-Held : goal.returns-in-Held
returns-in-Held g c = (held c.in-Held.bytes.items, subst (λ (b : List ℕ). IsOfBytes b c.args.cap.now c.compare_bytes.result) c.deref.ensures.value c.compare_bytes.ensures)

pub returns-in-Opened : goal.returns-in-Opened
returns-in-Opened g c = IfOk-weaker c.compare_source.result _ _ (λ verdict is. (opened c.new-source.result, is)) c.compare_source.ensures
