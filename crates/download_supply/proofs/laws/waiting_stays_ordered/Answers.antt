use Rattle.download_supply.proofs.UpperLemmas.{upper_append}
use Rattle.download_supply.proofs.laws.waiting_stays_ordered.Goals as goal

pub returns : goal.returns
returns c = upper_append
