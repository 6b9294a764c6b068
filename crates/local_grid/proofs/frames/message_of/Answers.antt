use Rattle.wire.specs.Frames.{spelling}
use Rattle.wire.proofs.LengthLaws.{spelling_len}
use Rattle.local_grid.proofs.frames.message_of.Goals as goal

-- the body of a message's frame is short
pub returns-in_default-clause-none : goal.returns-in_default-clause-none
returns-in_default-clause-none c = λ m fits same. c.in_default.ensures.none (spelling m) (spelling_len m fits).most same
