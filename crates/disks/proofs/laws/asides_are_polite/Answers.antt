use Rattle.disks.proofs.Polite.{aside_polite}
use Rattle.disks.proofs.laws.asides_are_polite.Goals as goal

pub returns : goal.returns
returns c = aside_polite
