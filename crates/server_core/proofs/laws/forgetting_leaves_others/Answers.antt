use Rattle.server_core.proofs.Ended.{forgetting_leaves_others}
use Rattle.server_core.proofs.laws.forgetting_leaves_others.Goals as goal

pub returns : goal.returns
returns c = forgetting_leaves_others
