use Rattle.catalogues.proofs.OneLaws.{catalogues_are_one}
use Rattle.catalogues.proofs.laws.catalogues_are_one.Goals as goal

pub returns : goal.returns
returns c = catalogues_are_one
