use Rattle.answer_laws.proofs.Checks.ReportLemmas.{own_answers_are_good}
use Rattle.answer_laws.proofs.check_laws.own_answers_are_good.Goals as goal

pub returns : goal.returns
returns c = own_answers_are_good
