use Rattle.download_file.proofs.GrowLemmas.{reads_keep}
use Rattle.download_file.proofs.laws.reads_stay.Goals as goal

pub returns : goal.returns
returns c = reads_keep
