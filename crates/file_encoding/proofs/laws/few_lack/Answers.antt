use Rattle.file_encoding.proofs.RemadeEnough.{few_lack}
use Rattle.file_encoding.proofs.laws.few_lack.Goals as goal

pub returns : goal.returns
returns c = few_lack
