use Rattle.share_files.proofs.Polite.{half_goes}
use Rattle.share_files.proofs.laws.half_may_go.Goals as goal

pub returns : goal.returns
returns c = half_goes
