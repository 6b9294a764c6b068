use Rattle.server_core.proofs.Keeps.{messages_keep}
use Rattle.server_core.proofs.laws.messages_keep.Goals as goal

pub returns : goal.returns
returns c = messages_keep
