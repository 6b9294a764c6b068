use Rattle.share_verify.proofs.Passing.{sound_passes}
use Rattle.share_verify.proofs.check.sound_shares_pass.Goals as goal

pub returns : goal.returns
returns c = sound_passes
