use Rattle.download_parts.proofs.PartLemmas.{hold_groups}
use Rattle.download_parts.proofs.plan_laws.levels_hold_groups.Goals as goal

pub returns : goal.returns
returns c = hold_groups
