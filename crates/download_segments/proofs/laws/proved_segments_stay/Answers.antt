use Rattle.download_segments.proofs.TreeLemmas.{proved_stays}
use Rattle.download_segments.proofs.laws.proved_segments_stay.Goals as goal

pub returns : goal.returns
returns c = proved_stays
