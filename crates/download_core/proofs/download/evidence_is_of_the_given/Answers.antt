use Rattle.download_core.proofs.ProvingLemmas.{evidence_is_of_the_given}
use Rattle.download_core.proofs.download.evidence_is_of_the_given.Goals as goal

pub returns : goal.returns
returns c = evidence_is_of_the_given
