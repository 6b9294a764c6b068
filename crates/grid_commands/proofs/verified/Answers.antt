use Rattle.std.proofs.lemmas.Result.{IfOk-weaker}
use Rattle.grid_commands.proofs.RunLemmas.{verify_asked}
use Rattle.grid_commands.proofs.verified.Goals as goal

pub returns : goal.returns
returns g c = IfOk-weaker c.verify.result _ _ (λ outcome by. (c.verify_words-asked.result, verify_asked _ _ _ _ c.verify_words-asked.ensures c.as_str.ensures.value c.in_ok-cap.ensures, (c.args.environment.now.secret_file, by))) c.verify.ensures
