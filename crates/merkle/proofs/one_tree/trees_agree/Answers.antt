use Rattle.merkle.proofs.OneTree.{trees_agree}
use Rattle.merkle.proofs.one_tree.trees_agree.Goals as goal

pub returns : goal.returns
returns c = trees_agree
