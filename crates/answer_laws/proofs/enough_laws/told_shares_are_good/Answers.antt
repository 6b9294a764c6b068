use Rattle.answer_laws.proofs.Enough.Checks.{told_shares_are_good}
use Rattle.answer_laws.proofs.enough_laws.told_shares_are_good.Goals as goal

pub returns : goal.returns
returns c = told_shares_are_good
