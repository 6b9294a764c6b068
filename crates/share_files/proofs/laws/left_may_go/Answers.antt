use Rattle.share_files.proofs.Polite.{left_goes}
use Rattle.share_files.proofs.laws.left_may_go.Goals as goal

pub returns : goal.returns
returns c = left_goes
