use Rattle.download_segments.proofs.HandoutLemmas.{next_follows}
use Rattle.download_segments.proofs.laws.next_segments_follow.Goals as goal

pub returns : goal.returns
returns c = next_follows
