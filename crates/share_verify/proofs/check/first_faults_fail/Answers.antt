use Rattle.share_verify.proofs.Faults.{first_fails}
use Rattle.share_verify.proofs.check.first_faults_fail.Goals as goal

pub returns : goal.returns
returns c = first_fails
