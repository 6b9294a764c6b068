use Rattle.answer_laws.proofs.Checks.VerdictLemmas.{own_reads_are_good}
use Rattle.answer_laws.proofs.check_laws.own_reads_are_good.Goals as goal

pub returns : goal.returns
returns c = own_reads_are_good
