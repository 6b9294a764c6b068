use Rattle.disks.proofs.Polite.{removal_polite}
use Rattle.disks.proofs.laws.removals_are_polite.Goals as goal

pub returns : goal.returns
returns c = removal_polite
