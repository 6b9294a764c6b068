use Rattle.answer_laws.proofs.Servers.Telling.{reads_bring_closed}
use Rattle.answer_laws.proofs.server_laws.reads_bring_closed.Goals as goal

pub returns : goal.returns
returns c = reads_bring_closed
