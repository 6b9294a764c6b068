use Rattle.std.proofs.lemmas.Result.{IfOk-weaker}
use Rattle.grid_commands.proofs.RunLemmas.{repair_asked}
use Rattle.grid_commands.proofs.repaired.Goals as goal

pub returns : goal.returns
returns g c = IfOk-weaker c.repair.result _ _ (λ outcome by. (c.repair_words-asked.result, repair_asked _ _ _ _ c.repair_words-asked.ensures c.as_str.ensures.value c.in_ok-cap.ensures, by)) c.repair.ensures
