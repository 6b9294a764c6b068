use Rattle.std.proofs.Common.{arith}
use Rattle.sha2_lanes.proofs.GroupLemmas.{ch_short}
use Rattle.sha2_lanes.proofs.group.ch.Goals as goal

pub returns : goal.returns
returns c = ch_short c.args.x c.args.y c.args.z (omega arith) (omega arith) (omega arith)
