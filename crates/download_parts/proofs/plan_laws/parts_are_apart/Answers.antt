use Rattle.download_parts.proofs.PartLemmas.{are_apart}
use Rattle.download_parts.proofs.plan_laws.parts_are_apart.Goals as goal

pub returns : goal.returns
returns c = are_apart
