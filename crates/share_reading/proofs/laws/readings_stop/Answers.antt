use Rattle.share_reading.proofs.ReadingLemmas.{stop}
use Rattle.share_reading.proofs.laws.readings_stop.Goals as goal

pub returns : goal.returns
returns c = stop
