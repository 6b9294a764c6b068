use Rattle.download_file.proofs.WholeLemmas.{whole_files}
use Rattle.download_file.proofs.laws.whole_files.Goals as goal

pub returns : goal.returns
returns c = whole_files
