use Rattle.answer_laws.proofs.Downloads.Downloads.{downloads_blame_fairly}
use Rattle.answer_laws.proofs.download_laws.downloads_blame_fairly.Goals as goal

pub returns : goal.returns
returns c = downloads_blame_fairly
