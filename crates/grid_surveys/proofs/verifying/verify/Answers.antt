use Rattle.std.proofs.lemmas.Result.{IfOk-weaker}
use Rattle.grid_surveys.proofs.VerifyLemmas.{verified_by}
use Rattle.grid_surveys.proofs.verifying.verify.Goals as goal

pub returns : goal.returns
returns g c = IfOk-weaker c.compare_one.result _ _
    (λ outcome is. verified_by _ c.args.environment.now.secret_file c.args.words.now c.in_ok-cap.cap c.in_ok-secret.secret.items c.as_slice.result.now c.in_ok-max_segment.max_segment is.0 is.1 outcome ((c.read_cap.ensures c.in_ok-cap.cap).0 c.in_ok-cap.was) c.in_ok-secret.ensures.under c.in_ok-max_segment.ensures c.as_slice.ensures.value is.2 is.3 is.4)
    c.compare_one.ensures
