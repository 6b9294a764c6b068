use Rattle.share_reading.proofs.ReadLemmas.{lead_on}
use Rattle.share_reading.proofs.opening_laws.reads_lead_on.Goals as goal

pub returns : goal.returns
returns c = lead_on
