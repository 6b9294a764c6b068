use Rattle.disks.proofs.Polite.{go_on}
use Rattle.disks.proofs.laws.others_go_on.Goals as goal

pub returns : goal.returns
returns c = go_on
