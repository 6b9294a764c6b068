use Rattle.file_encoding.proofs.Binding.{own_shares_are_within}
use Rattle.file_encoding.proofs.laws.own_shares_are_within.Goals as goal

pub returns : goal.returns
returns c = own_shares_are_within
