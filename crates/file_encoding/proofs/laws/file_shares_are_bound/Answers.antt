use Rattle.file_encoding.proofs.Binding.{file_shares_are_bound}
use Rattle.file_encoding.proofs.laws.file_shares_are_bound.Goals as goal

pub returns : goal.returns
returns c = file_shares_are_bound
