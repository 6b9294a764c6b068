use Rattle.download_parts.proofs.PartLemmas.{lie_inside}
use Rattle.download_parts.proofs.plan_laws.parts_lie_inside.Goals as goal

pub returns : goal.returns
returns c = lie_inside
