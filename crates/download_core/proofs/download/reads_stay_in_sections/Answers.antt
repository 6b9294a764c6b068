use Rattle.download_core.proofs.SectionLemmas.{reads_stay}
use Rattle.download_core.proofs.download.reads_stay_in_sections.Goals as goal

pub returns : goal.returns
returns c = reads_stay
