use Rattle.download_supply.proofs.LawLemmas.{taken_known}
use Rattle.download_supply.proofs.laws.taken_nodes_are_known.Goals as goal

pub returns : goal.returns
returns c = taken_known
