use Rattle.download_file.proofs.GrowLemmas.{given_keep}
use Rattle.download_file.proofs.laws.given_stays.Goals as goal

pub returns : goal.returns
returns c = given_keep
