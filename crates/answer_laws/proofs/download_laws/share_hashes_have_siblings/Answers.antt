use Rattle.answer_laws.proofs.Downloads.HashSiblings.{share_hashes_have_siblings}
use Rattle.answer_laws.proofs.download_laws.share_hashes_have_siblings.Goals as goal

pub returns : goal.returns
returns c = share_hashes_have_siblings
