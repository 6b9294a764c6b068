use Rattle.download_core.proofs.SectionLemmas.{later_reads}
use Rattle.download_core.proofs.download.later_reads_lie_in_sections.Goals as goal

pub returns : goal.returns
returns c = later_reads
