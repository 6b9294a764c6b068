use Rattle.disks.proofs.Polite.{sync_polite}
use Rattle.disks.proofs.laws.syncs_are_polite.Goals as goal

pub returns : goal.returns
returns c = sync_polite
