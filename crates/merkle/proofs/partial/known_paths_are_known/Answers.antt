use Rattle.merkle.proofs.KnownLemmas.{known_paths}
use Rattle.merkle.proofs.partial.known_paths_are_known.Goals as goal

pub returns : goal.returns
returns c = known_paths
