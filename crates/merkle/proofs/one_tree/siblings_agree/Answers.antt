use Rattle.merkle.proofs.OneTree.{siblings_agree}
use Rattle.merkle.proofs.one_tree.siblings_agree.Goals as goal

pub returns : goal.returns
returns c = siblings_agree
