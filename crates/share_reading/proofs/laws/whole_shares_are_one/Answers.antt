use Rattle.share_reading.proofs.ConsecutiveLemmas.{are_one}
use Rattle.share_reading.proofs.laws.whole_shares_are_one.Goals as goal

pub returns : goal.returns
returns c = are_one
