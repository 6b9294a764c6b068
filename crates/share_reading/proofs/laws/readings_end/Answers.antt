use Rattle.share_reading.proofs.ReadingLemmas.{end_whole}
use Rattle.share_reading.proofs.laws.readings_end.Goals as goal

pub returns : goal.returns
returns c = end_whole
