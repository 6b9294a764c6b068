use Rattle.disks.proofs.Polite.{return_polite}
use Rattle.disks.proofs.laws.returns_are_polite.Goals as goal

pub returns : goal.returns
returns c = return_polite
