use Rattle.download_supply.proofs.UpperLemmas.{upper_giving}
use Rattle.download_supply.proofs.laws.waiting_stays_ordered_giving.Goals as goal

pub returns : goal.returns
returns c = upper_giving
