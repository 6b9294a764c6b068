use Rattle.answer_laws.proofs.Downloads.OwnBlock.{own_pieces_join}
use Rattle.answer_laws.proofs.download_laws.own_pieces_join.Goals as goal

pub returns : goal.returns
returns c = own_pieces_join
