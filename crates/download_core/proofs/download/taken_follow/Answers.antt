use Rattle.download_core.proofs.WholeLemmas.{taken_follow}
use Rattle.download_core.proofs.download.taken_follow.Goals as goal

pub returns : goal.returns
returns c = taken_follow
