use Rattle.file_encoding.proofs.OwnShares.{file_shares_pass}
use Rattle.file_encoding.proofs.laws.file_shares_pass.Goals as goal

pub returns : goal.returns
returns c = file_shares_pass
