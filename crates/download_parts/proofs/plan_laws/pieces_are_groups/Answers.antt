use Rattle.download_parts.proofs.PartLemmas.{are_groups}
use Rattle.download_parts.proofs.plan_laws.pieces_are_groups.Goals as goal

pub returns : goal.returns
returns c = are_groups
