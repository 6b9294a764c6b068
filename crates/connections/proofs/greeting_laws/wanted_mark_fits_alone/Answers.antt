use Rattle.connections.proofs.Marks.{one_mark}
use Rattle.connections.proofs.greeting_laws.wanted_mark_fits_alone.Goals as goal

pub returns : goal.returns
returns c = one_mark
