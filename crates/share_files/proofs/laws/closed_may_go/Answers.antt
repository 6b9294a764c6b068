use Rattle.share_files.proofs.Polite.{closed_goes}
use Rattle.share_files.proofs.laws.closed_may_go.Goals as goal

pub returns : goal.returns
returns c = closed_goes
