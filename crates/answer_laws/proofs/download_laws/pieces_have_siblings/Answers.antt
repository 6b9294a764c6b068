use Rattle.answer_laws.proofs.Downloads.PieceSiblings.{pieces_have_siblings}
use Rattle.answer_laws.proofs.download_laws.pieces_have_siblings.Goals as goal

pub returns : goal.returns
returns c = pieces_have_siblings
