use Rattle.std.proofs.Common.{◌∙◌}
use Rattle.aes_ctr.proofs.key.RoundKey.slices.Goals as goal

pub returns-clause-blocks : goal.returns-clause-blocks
returns-clause-blocks c j within = c.self.invariant.1 j within ∙ c.self.view_is
