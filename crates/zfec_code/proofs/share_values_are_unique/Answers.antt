use Rattle.zfec_code.proofs.ShareLemmas.{share_value_unique}
use Rattle.zfec_code.proofs.share_values_are_unique.Goals as goal

pub returns : goal.returns
returns c = share_value_unique
