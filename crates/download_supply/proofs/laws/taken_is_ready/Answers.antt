use Rattle.download_supply.proofs.LawLemmas.{all_ready}
use Rattle.download_supply.proofs.laws.taken_is_ready.Goals as goal

pub returns : goal.returns
returns c = all_ready
