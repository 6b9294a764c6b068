use Rattle.server_core.proofs.Keeps.{restarts_keep}
use Rattle.server_core.proofs.laws.restarts_keep.Goals as goal

pub returns : goal.returns
returns c = restarts_keep
