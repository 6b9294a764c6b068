use Rattle.answer_laws.proofs.Servers.Telling.{asks_list_all}
use Rattle.answer_laws.proofs.server_laws.asks_list_all.Goals as goal

pub returns : goal.returns
returns c = asks_list_all
