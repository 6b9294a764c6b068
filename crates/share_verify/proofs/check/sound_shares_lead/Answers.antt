use Rattle.share_verify.proofs.Leading.{sound_leads}
use Rattle.share_verify.proofs.check.sound_shares_lead.Goals as goal

pub returns : goal.returns
returns c = sound_leads
