use Rattle.file_streaming.proofs.RemadeLaws.{pieces_are_remade}
use Rattle.file_streaming.proofs.remade_laws.pieces_are_remade.Goals as goal

pub returns : goal.returns
returns c = pieces_are_remade
