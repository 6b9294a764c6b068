use Rattle.answer_laws.proofs.Downloads.OwnPieces.{own_pieces_go_on}
use Rattle.answer_laws.proofs.download_laws.own_pieces_go_on.Goals as goal

pub returns : goal.returns
returns c = own_pieces_go_on
