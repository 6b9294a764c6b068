use Rattle.file_encoding.proofs.ShareSizes.{shares_are_not_long}
use Rattle.file_encoding.proofs.laws.shares_are_not_long.Goals as goal

pub returns : goal.returns
returns c = shares_are_not_long
