use Rattle.disks.proofs.Polite.{link_polite}
use Rattle.disks.proofs.laws.links_are_polite.Goals as goal

pub returns : goal.returns
returns c = link_polite
