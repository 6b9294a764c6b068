use Rattle.download_core.proofs.WholeLemmas.{whole_files}
use Rattle.download_core.proofs.download.whole_files.Goals as goal

pub returns : goal.returns
returns c = whole_files
