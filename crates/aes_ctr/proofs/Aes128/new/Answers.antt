use Rattle.std.proofs.Common.{sym, subst}
use Rattle.aes_ctr.specs.Aes.{AreKeys}
use Rattle.aes_ctr.proofs.Aes128.new.Goals as goal

pub invariant_of-result : goal.invariant_of-result
invariant_of-result c = subst (λ k. AreKeys k c.round_keys.result) (sym c.round_keys.ensures.first) c.round_keys.ensures.keys
