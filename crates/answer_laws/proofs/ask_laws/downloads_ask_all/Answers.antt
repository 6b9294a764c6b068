use Rattle.answer_laws.proofs.Asking.Downloads.{downloads_ask_all}
use Rattle.answer_laws.proofs.ask_laws.downloads_ask_all.Goals as goal

pub returns : goal.returns
returns c = downloads_ask_all
