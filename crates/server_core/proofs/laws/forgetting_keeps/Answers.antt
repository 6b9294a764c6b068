use Rattle.server_core.proofs.Ended.{forgetting_keeps}
use Rattle.server_core.proofs.laws.forgetting_keeps.Goals as goal

pub returns : goal.returns
returns c = forgetting_keeps
