use Rattle.download_core.proofs.RightBlocks.{right_blocks}
use Rattle.download_core.proofs.download.right_blocks_lead.Goals as goal

pub returns : goal.returns
returns c = right_blocks
