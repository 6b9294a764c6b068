use Rattle.file_encoding.proofs.RemadeEnough.{enough_pass}
use Rattle.file_encoding.proofs.laws.enough_pass.Goals as goal

pub returns : goal.returns
returns c = enough_pass
