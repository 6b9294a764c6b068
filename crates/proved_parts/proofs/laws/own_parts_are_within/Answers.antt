use Rattle.proved_parts.proofs.OwnParts.{own_parts_are_within}
use Rattle.proved_parts.proofs.laws.own_parts_are_within.Goals as goal

pub returns : goal.returns
returns c = own_parts_are_within
