use Rattle.merkle.proofs.InputLemmas.{paths_agree}
use Rattle.merkle.proofs.path.paths_agree.Goals as goal

pub returns : goal.returns
returns c = paths_agree
