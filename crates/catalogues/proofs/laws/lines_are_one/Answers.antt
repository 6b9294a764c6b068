use Rattle.catalogues.proofs.OneLaws.{lines_are_one}
use Rattle.catalogues.proofs.laws.lines_are_one.Goals as goal

pub returns : goal.returns
returns c = lines_are_one
