use Rattle.download_supply.proofs.LawLemmas.{plans_grow}
use Rattle.download_supply.proofs.laws.longer_plans_hold_more.Goals as goal

pub returns : goal.returns
returns c = plans_grow
