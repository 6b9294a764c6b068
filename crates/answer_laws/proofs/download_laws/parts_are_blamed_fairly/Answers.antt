use Rattle.answer_laws.proofs.Downloads.FairBlame.{parts_are_blamed_fairly}
use Rattle.answer_laws.proofs.download_laws.parts_are_blamed_fairly.Goals as goal

pub returns : goal.returns
returns c = parts_are_blamed_fairly
