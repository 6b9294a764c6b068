use Rattle.disks.proofs.Polite.{write_polite}
use Rattle.disks.proofs.laws.writes_are_polite.Goals as goal

pub returns : goal.returns
returns c = write_polite
