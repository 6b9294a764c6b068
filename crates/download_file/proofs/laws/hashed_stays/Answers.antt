use Rattle.download_file.proofs.GivenLemmas.{hashed_stay}
use Rattle.download_file.proofs.laws.hashed_stays.Goals as goal

pub returns : goal.returns
returns c = hashed_stay
