use Rattle.merkle.proofs.HeightLemmas.{height_low}
use Rattle.merkle.proofs.padding.Padding.height.Goals as goal

pub returns-clause-low : goal.returns-clause-low
returns-clause-low c = height_low _ c.height.result 20 c.self.invariant.1 c.height.ensures.least
