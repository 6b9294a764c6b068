use Rattle.download_segments.proofs.DecodingLemmas.{unique}
use Rattle.download_segments.proofs.laws.segments_are_unique.Goals as goal

pub returns : goal.returns
returns c = unique
