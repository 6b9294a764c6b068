use Rattle.file_streaming.proofs.Given.{pieces_are_right}
use Rattle.file_streaming.proofs.laws.pieces_are_right.Goals as goal

pub returns : goal.returns
returns c = pieces_are_right
