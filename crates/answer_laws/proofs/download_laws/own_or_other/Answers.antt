use Rattle.answer_laws.proofs.Downloads.AnswerLemmas.{own_or_other}
use Rattle.answer_laws.proofs.download_laws.own_or_other.Goals as goal

pub returns : goal.returns
returns c = own_or_other
