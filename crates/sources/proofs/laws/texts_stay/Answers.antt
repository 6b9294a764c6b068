use Rattle.sources.proofs.Brought.{texts_stay}
use Rattle.sources.proofs.laws.texts_stay.Goals as goal

pub returns : goal.returns
returns c = texts_stay
