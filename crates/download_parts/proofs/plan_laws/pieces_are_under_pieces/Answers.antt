use Rattle.download_parts.proofs.PartLemmas.{under_pieces}
use Rattle.download_parts.proofs.plan_laws.pieces_are_under_pieces.Goals as goal

pub returns : goal.returns
returns c = under_pieces
