use Rattle.download_core.proofs.HashedLemmas.{given_are_shown}
use Rattle.download_core.proofs.download.given_are_shown.Goals as goal

pub returns : goal.returns
returns c = given_are_shown
