use Rattle.share_files.proofs.Polite.{half_returns}
use Rattle.share_files.proofs.laws.half_may_return.Goals as goal

pub returns : goal.returns
returns c = half_returns
