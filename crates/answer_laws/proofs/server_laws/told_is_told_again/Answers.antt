use Rattle.answer_laws.proofs.Servers.Again.{told_is_told_again}
use Rattle.answer_laws.proofs.server_laws.told_is_told_again.Goals as goal

pub returns : goal.returns
returns c = told_is_told_again
