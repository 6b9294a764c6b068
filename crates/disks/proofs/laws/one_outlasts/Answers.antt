use Rattle.disks.proofs.Durable.{one_outlasts}
use Rattle.disks.proofs.laws.one_outlasts.Goals as goal

pub returns : goal.returns
returns c = one_outlasts
