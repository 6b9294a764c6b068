use Rattle.download_supply.proofs.LawLemmas.{first_due}
use Rattle.download_supply.proofs.laws.first_is_due.Goals as goal

pub returns : goal.returns
returns c = first_due
