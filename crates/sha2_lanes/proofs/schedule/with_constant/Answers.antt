use Rattle.std.proofs.Common.{ap, length}
use Rattle.sha2_lanes.proofs.ScheduleLemmas.{constant_added, constant_vector}
use Rattle.sha2_lanes.proofs.schedule.with_constant.Goals as goal

pub returns-clause-long : goal.returns-clause-long
returns-clause-long c = ap length (constant_vector c.args.word _ c.requires.long)

pub returns-clause-sums : goal.returns-clause-sums
returns-clause-sums c j below = constant_added c.args.word _ j c.requires.long below
