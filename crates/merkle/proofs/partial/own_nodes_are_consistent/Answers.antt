use Rattle.merkle.proofs.OwnOffers.{own_nodes_are_consistent}
use Rattle.merkle.proofs.partial.own_nodes_are_consistent.Goals as goal

pub returns : goal.returns
returns c = own_nodes_are_consistent
