use Rattle.world.proofs.Later.{nothing_clashed_before}
use Rattle.world.proofs.laws.nothing_clashed_before.Goals as goal

pub returns : goal.returns
returns c = nothing_clashed_before
