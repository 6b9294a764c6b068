use Rattle.disks.proofs.Polite.{make_polite}
use Rattle.disks.proofs.laws.makes_are_polite.Goals as goal

pub returns : goal.returns
returns c = make_polite
