use Rattle.proved_parts.proofs.Segments.{one_ueb}
use Rattle.proved_parts.proofs.laws.blocks_say_one_thing.Goals as goal

pub returns : goal.returns
returns c = one_ueb
