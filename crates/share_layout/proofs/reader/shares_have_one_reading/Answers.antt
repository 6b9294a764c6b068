use Rattle.share_layout.proofs.ShareLemmas.{one_reading}
use Rattle.share_layout.proofs.reader.shares_have_one_reading.Goals as goal

pub returns : goal.returns
returns c = one_reading
