use Rattle.answer_laws.proofs.Asking.Checks.{checks_ask_all}
use Rattle.answer_laws.proofs.ask_laws.checks_ask_all.Goals as goal

pub returns : goal.returns
returns c = checks_ask_all
