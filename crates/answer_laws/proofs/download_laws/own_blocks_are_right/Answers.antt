use Rattle.answer_laws.proofs.Downloads.OwnReaders.{own_blocks_are_right}
use Rattle.answer_laws.proofs.download_laws.own_blocks_are_right.Goals as goal

pub returns : goal.returns
returns c = own_blocks_are_right
