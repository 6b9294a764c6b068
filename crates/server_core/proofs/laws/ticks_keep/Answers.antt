use Rattle.server_core.proofs.Keeps.{ticks_keep}
use Rattle.server_core.proofs.laws.ticks_keep.Goals as goal

pub returns : goal.returns
returns c = ticks_keep
