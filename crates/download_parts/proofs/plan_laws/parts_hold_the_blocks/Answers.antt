use Rattle.download_parts.proofs.PartLemmas.{hold_the_blocks}
use Rattle.download_parts.proofs.plan_laws.parts_hold_the_blocks.Goals as goal

pub returns : goal.returns
returns c = hold_the_blocks
