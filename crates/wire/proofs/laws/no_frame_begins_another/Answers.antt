use Rattle.wire.proofs.StreamLaws as laws
use Rattle.wire.proofs.laws.no_frame_begins_another.Goals as goal

pub returns : goal.returns
returns c = laws.no_frame_begins_another
