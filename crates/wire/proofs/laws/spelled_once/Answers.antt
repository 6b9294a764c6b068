use Rattle.wire.proofs.StreamLaws as laws
use Rattle.wire.proofs.laws.spelled_once.Goals as goal

pub returns : goal.returns
returns c = laws.spelled_once
