use Rattle.disks.proofs.Polite.{file_sync_polite}
use Rattle.disks.proofs.laws.file_syncs_are_polite.Goals as goal

pub returns : goal.returns
returns c = file_sync_polite
