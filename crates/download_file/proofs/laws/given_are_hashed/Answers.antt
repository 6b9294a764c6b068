use Rattle.download_file.proofs.GivenLemmas.{given_are_hashed}
use Rattle.download_file.proofs.laws.given_are_hashed.Goals as goal

pub returns : goal.returns
returns c = given_are_hashed
