use Rattle.merkle.proofs.InputLemmas.{leaf_agrees}
use Rattle.merkle.proofs.path.leaf_agrees.Goals as goal

pub returns : goal.returns
returns c = leaf_agrees
