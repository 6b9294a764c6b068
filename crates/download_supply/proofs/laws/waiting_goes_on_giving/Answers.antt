use Rattle.download_supply.proofs.LawLemmas.{lead_giving}
use Rattle.download_supply.proofs.laws.waiting_goes_on_giving.Goals as goal

pub returns : goal.returns
returns c = lead_giving
