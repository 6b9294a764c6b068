use Rattle.download_parts.proofs.EndLemmas.{end_with_blocks}
use Rattle.download_parts.proofs.plan_laws.pieces_end_with_blocks.Goals as goal

pub returns : goal.returns
returns c = end_with_blocks
