use Rattle.std.proofs.Common.{arith}
use Rattle.merkle.proofs.HeightLemmas.{height_low}
use Rattle.share_layout.proofs.geometry.Geometry.share_tree_height.Goals as goal

pub returns-clause-low : goal.returns-clause-low
returns-clause-low c = height_low c.from.result c.height.result 8 (omega arith) c.height.ensures.least
