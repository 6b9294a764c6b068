use Rattle.share_reading.proofs.ReadLemmas.{rise}
use Rattle.share_reading.proofs.opening_laws.reads_rise.Goals as goal

pub returns : goal.returns
returns c = rise
