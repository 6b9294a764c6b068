use Rattle.server_core.proofs.Ended.{letting_go_keeps}
use Rattle.server_core.proofs.laws.letting_go_keeps.Goals as goal

pub returns : goal.returns
returns c = letting_go_keeps
