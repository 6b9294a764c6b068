use Rattle.zfec_code.proofs.Formula.{share_value-is}
use Rattle.zfec_code.proofs.formula_gives_shares.Goals as goal

pub returns : goal.returns
returns c = share_value-is
