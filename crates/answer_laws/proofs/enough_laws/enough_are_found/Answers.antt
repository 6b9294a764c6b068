use Rattle.answer_laws.proofs.Enough.Downloads.{enough_are_found}
use Rattle.answer_laws.proofs.enough_laws.enough_are_found.Goals as goal

pub returns : goal.returns
returns c = enough_are_found
