use Rattle.std.proofs.Common.{◌∙◌, refl}
use Rattle.grid_surveys.proofs.VerifyLemmas.{told_judged, told_refused}
use Rattle.grid_surveys.proofs.verifying.tell_found.Goals as goal

pub returns-in_ok-write-in-Ok-clause-told : goal.returns-in_ok-write-in-Ok-clause-told
returns-in_ok-write-in-Ok-clause-told g c =
    told_judged c.args.found c.in-Ok.verdict c.args.name.now c.as_bytes.result.now c.in_ok-line-in-Ok.line.items c.deref.result.now _ _ _ c.in-Ok.is (c.as_bytes.ensures.value ∙ c.word.ensures) c.in_ok-line-in-Ok.ensures c.deref.ensures.value c.in_ok-write-in-Ok.ensures.written refl c.status.ensures

pub returns-in_ok-tell_refused-in-Err-clause-told : goal.returns-in_ok-tell_refused-in-Err-clause-told
returns-in_ok-tell_refused-in-Err-clause-told g c =
    told_refused c.args.found c.in-Err.fault c.args.name.now _ _ c.in-Err.is refl c.status-in-Err.ensures
