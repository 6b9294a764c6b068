use Rattle.download_file.proofs.TestedLemmas.{tested_stay}
use Rattle.download_file.proofs.laws.tested_stays.Goals as goal

pub returns : goal.returns
returns c = tested_stay
