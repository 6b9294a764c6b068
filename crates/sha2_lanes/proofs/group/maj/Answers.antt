use Rattle.sha2_lanes.proofs.Rounds.{maj_short}
use Rattle.sha2_lanes.proofs.group.maj.Goals as goal

pub returns : goal.returns
returns c = maj_short c.args.x c.args.y c.args.z
