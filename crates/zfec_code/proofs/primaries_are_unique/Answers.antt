use Rattle.zfec_code.proofs.ShareBlocks.{primaries_unique}
use Rattle.zfec_code.proofs.primaries_are_unique.Goals as goal

pub returns : goal.returns
returns c = primaries_unique
