use Rattle.download_supply.proofs.UpperLemmas.{over_proves}
use Rattle.download_supply.proofs.laws.over_proves.Goals as goal

pub returns : goal.returns
returns c = over_proves
