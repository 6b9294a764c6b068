use Rattle.server_core.proofs.Ended.{letting_go_leaves_written}
use Rattle.server_core.proofs.laws.letting_go_leaves_written.Goals as goal

pub returns : goal.returns
returns c = letting_go_leaves_written
