use Rattle.std.proofs.Common.{arith}
use Rattle.merkle.proofs.HeightLemmas.{height_low}
use Rattle.download_parts.proofs.plan.Plan.height.Goals as goal

pub returns-clause-low : goal.returns-clause-low
returns-clause-low c = height_low c.segment_count.result c.height.result 20 (omega (arith, c.segment_count.ensures.range)) c.height.ensures.least
