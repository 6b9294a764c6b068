use Rattle.file_encoding.proofs.OwnShares.{accepted_shares_pass}
use Rattle.file_encoding.proofs.laws.accepted_shares_pass.Goals as goal

pub returns : goal.returns
returns c = accepted_shares_pass
