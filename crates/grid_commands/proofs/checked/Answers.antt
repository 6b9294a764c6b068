use Rattle.std.proofs.lemmas.Result.{IfOk-weaker}
use Rattle.grid_commands.proofs.RunLemmas.{check_asked}
use Rattle.grid_commands.proofs.checked.Goals as goal

pub returns : goal.returns
returns g c = IfOk-weaker c.check.result _ _ (λ outcome by. (c.check_words-asked.result, check_asked _ _ _ _ c.check_words-asked.ensures c.as_str.ensures.value c.in_ok-cap.ensures, by)) c.check.ensures
