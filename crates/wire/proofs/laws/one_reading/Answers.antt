use Rattle.wire.proofs.StreamLaws as laws
use Rattle.wire.proofs.laws.one_reading.Goals as goal

pub returns : goal.returns
returns c = laws.one_reading
