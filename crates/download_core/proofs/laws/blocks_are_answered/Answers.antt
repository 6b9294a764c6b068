use Rattle.download_core.proofs.Causes.{block_answered}
use Rattle.download_core.proofs.laws.blocks_are_answered.Goals as goal

pub returns : goal.returns
returns c = block_answered
