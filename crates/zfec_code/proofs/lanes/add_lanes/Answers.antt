use Rattle.zfec_code.proofs.LaneLemmas.{stored_below, stored_above, stored_at}
use Rattle.zfec_code.proofs.lanes.add_lanes.Goals as goal

pub returns-clause-below : goal.returns-clause-below
returns-clause-below c = stored_below c.args.dst.now c.args.lanes c.args.at c.requires.in_dst c.requires.long

pub returns-clause-added : goal.returns-clause-added
returns-clause-added c = stored_at c.args.dst.now c.args.lanes c.args.at c.requires.in_dst c.requires.long

pub returns-clause-above : goal.returns-clause-above
returns-clause-above c = stored_above c.args.dst.now c.args.lanes c.args.at c.requires.in_dst c.requires.long
