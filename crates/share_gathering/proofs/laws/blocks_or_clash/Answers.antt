use Rattle.share_gathering.proofs.Blocks.{blocks_or_clash}
use Rattle.share_gathering.proofs.laws.blocks_or_clash.Goals as goal

pub returns : goal.returns
returns c = blocks_or_clash
