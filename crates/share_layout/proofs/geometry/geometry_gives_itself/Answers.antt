use Rattle.share_layout.proofs.GeometryLemmas.{gives_itself}
use Rattle.share_layout.proofs.geometry.geometry_gives_itself.Goals as goal

pub returns : goal.returns
returns c = gives_itself
