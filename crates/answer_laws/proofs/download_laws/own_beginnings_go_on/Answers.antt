use Rattle.answer_laws.proofs.Downloads.AnswerLemmas.{own_beginnings_go_on}
use Rattle.answer_laws.proofs.download_laws.own_beginnings_go_on.Goals as goal

pub returns : goal.returns
returns c = own_beginnings_go_on
