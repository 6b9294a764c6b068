use Rattle.share_reading.proofs.VerdictLemmas.{exclusive}
use Rattle.share_reading.proofs.laws.verdicts_are_exclusive.Goals as goal

pub returns : goal.returns
returns c = exclusive
