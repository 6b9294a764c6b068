use Rattle.answer_laws.proofs.Downloads.FairBlame.{blocks_are_blamed_fairly}
use Rattle.answer_laws.proofs.download_laws.blocks_are_blamed_fairly.Goals as goal

pub returns : goal.returns
returns c = blocks_are_blamed_fairly
