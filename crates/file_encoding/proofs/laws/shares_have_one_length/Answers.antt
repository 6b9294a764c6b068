use Rattle.file_encoding.proofs.OwnShares.{shares_have_one_length}
use Rattle.file_encoding.proofs.laws.shares_have_one_length.Goals as goal

pub returns : goal.returns
returns c = shares_have_one_length
