use Rattle.std.proofs.lemmas.Result.{IfOk-weaker}
use Rattle.share_files.proofs.files.check_with.Goals as goal

pub returns : goal.returns
returns g c = IfOk-weaker c.check_bytes.result _ _ (λ verdict is. (c.in_ok-file.file, is)) c.check_bytes.ensures.verdict
