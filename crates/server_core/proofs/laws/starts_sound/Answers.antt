use Rattle.server_core.proofs.Keeps.{starts_sound}
use Rattle.server_core.proofs.laws.starts_sound.Goals as goal

pub returns : goal.returns
returns c = starts_sound
