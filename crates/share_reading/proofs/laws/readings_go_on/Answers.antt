use Rattle.share_reading.proofs.ReadingLemmas.{go_on}
use Rattle.share_reading.proofs.laws.readings_go_on.Goals as goal

pub returns : goal.returns
returns c = go_on
