use Rattle.answer_laws.proofs.Downloads.OwnPieces.{own_parts_have_lengths}
use Rattle.answer_laws.proofs.download_laws.own_parts_have_lengths.Goals as goal

pub returns : goal.returns
returns c = own_parts_have_lengths
