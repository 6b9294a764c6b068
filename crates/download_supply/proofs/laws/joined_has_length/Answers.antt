use Rattle.download_supply.proofs.LawLemmas.{joined_long}
use Rattle.download_supply.proofs.laws.joined_has_length.Goals as goal

pub returns : goal.returns
returns c = joined_long
