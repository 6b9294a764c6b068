use Rattle.file_encoding.proofs.OwnShares.{ciphertext_shares_pass}
use Rattle.file_encoding.proofs.laws.ciphertext_shares_pass.Goals as goal

pub returns : goal.returns
returns c = ciphertext_shares_pass
