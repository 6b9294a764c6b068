use Rattle.download_core.proofs.Sent.{sent}
use Rattle.download_core.proofs.laws.sending_stays.Goals as goal

pub returns : goal.returns
returns c = sent
