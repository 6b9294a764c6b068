use Rattle.answer_laws.proofs.Enough.Servers.{servers_tell_all}
use Rattle.answer_laws.proofs.enough_laws.servers_tell_all.Goals as goal

pub returns : goal.returns
returns c = servers_tell_all
