use Rattle.sources.proofs.Differ.{have_differed}
use Rattle.sources.proofs.laws.unlike_passes_differ.Goals as goal

pub returns : goal.returns
returns g c = have_differed g.S.Source.gives
