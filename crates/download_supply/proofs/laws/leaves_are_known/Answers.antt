use Rattle.download_supply.proofs.LawLemmas.{leaf_known}
use Rattle.download_supply.proofs.laws.leaves_are_known.Goals as goal

pub returns : goal.returns
returns c = leaf_known
