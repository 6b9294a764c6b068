use Rattle.share_reading.proofs.BlameLemmas.{refused_fail}
use Rattle.share_reading.proofs.opening_laws.refused_shares_fail.Goals as goal

pub returns : goal.returns
returns c = refused_fail
