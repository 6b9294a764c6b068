use Rattle.std.specs.Prelude.{is_some}
use Rattle.std.proofs.lemmas.Result.{IfOk-weaker}
use Rattle.grid_lists.proofs.putting.put_named.Goals as goal

pub returns-clause-put : goal.returns-clause-put
returns-clause-put g c = IfOk-weaker c.put_file.result _ _ (λ file put. (is_some c.args.kept.now, put)) c.put_file.ensures.put
