use Rattle.std.proofs.lemmas.Result.{IfOk-weaker}
use Rattle.file_encoding.specs.Params.{parameters_of}
use Rattle.grid_surveys.proofs.VerifyLemmas.{made_by}
use Rattle.grid_surveys.proofs.comparing.cap_by.Goals as goal

pub returns : goal.returns
returns g c = IfOk-weaker c.cap_of.result _ _ (λ cap made. made_by _ _ _ _ (parameters_of c.in_ok-params.params) _ _ c.in_ok-params.ensures made) c.cap_of.ensures.made
