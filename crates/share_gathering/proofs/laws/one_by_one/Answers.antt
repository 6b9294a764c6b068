use Rattle.share_gathering.proofs.OneByOne.{one_by_one}
use Rattle.share_gathering.proofs.laws.one_by_one.Goals as goal

pub returns : goal.returns
returns c = one_by_one
