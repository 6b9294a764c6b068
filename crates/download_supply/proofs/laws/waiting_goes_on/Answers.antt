use Rattle.download_supply.proofs.LawLemmas.{lead_append}
use Rattle.download_supply.proofs.laws.waiting_goes_on.Goals as goal

pub returns : goal.returns
returns c = lead_append
