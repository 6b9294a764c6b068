use Rattle.download_segments.proofs.LawLemmas.{blocks_lead}
use Rattle.download_segments.proofs.laws.blocks_lead.Goals as goal

pub returns : goal.returns
returns c = blocks_lead
