use Rattle.aes_ctr.proofs.SpreadLemmas.{selected_long, selected_lane}
use Rattle.aes_ctr.proofs.slices.spread.Goals as goal

pub returns-clause-long : goal.returns-clause-long
returns-clause-long k c = selected_long k.row.BIT c.args.both c.fits-both.0

pub returns-clause-lanes : goal.returns-clause-lanes
returns-clause-lanes k c = selected_lane k.row.BIT c.args.both c.fits-both.0
