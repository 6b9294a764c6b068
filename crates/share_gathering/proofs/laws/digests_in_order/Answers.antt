use Rattle.share_gathering.proofs.OneByOne.{digest_in_order}
use Rattle.share_gathering.proofs.laws.digests_in_order.Goals as goal

pub returns : goal.returns
returns c = digest_in_order
