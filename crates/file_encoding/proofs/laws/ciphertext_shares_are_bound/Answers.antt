use Rattle.file_encoding.proofs.Binding.{shares_are_bound}
use Rattle.file_encoding.proofs.laws.ciphertext_shares_are_bound.Goals as goal

pub returns : goal.returns
returns c = shares_are_bound
