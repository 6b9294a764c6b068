use Rattle.merkle.proofs.OwnNodes.{known_nodes_are_own}
use Rattle.merkle.proofs.one_tree.known_nodes_are_own.Goals as goal

pub returns : goal.returns
returns c = known_nodes_are_own
