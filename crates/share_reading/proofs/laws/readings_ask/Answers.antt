use Rattle.share_reading.proofs.ReadingLemmas.{ask}
use Rattle.share_reading.proofs.laws.readings_ask.Goals as goal

pub returns : goal.returns
returns c = ask
