use Rattle.download_supply.proofs.LawLemmas.{parts_apart}
use Rattle.download_supply.proofs.laws.supply_parts_are_apart.Goals as goal

pub returns : goal.returns
returns c = parts_apart
