use Rattle.file_encoding.proofs.OwnEvidence.{own_trees_are_within}
use Rattle.file_encoding.proofs.laws.own_trees_are_within.Goals as goal

pub returns : goal.returns
returns c = own_trees_are_within
