use Rattle.merkle.proofs.OwnInputLemmas.{own_paths_are_within}
use Rattle.merkle.proofs.path.own_paths_are_within.Goals as goal

pub returns : goal.returns
returns c = own_paths_are_within
