use Rattle.std.proofs.Common.{◌*◌}
use Rattle.aes_ctr.proofs.StreamLemmas.{IsAddedTo}
use Rattle.aes_ctr.proofs.Aes128.xor_stretch.Given as goal

abbrev pub invariant-loop-g : goal.invariant-loop-g
invariant-loop-g l = IsAddedTo l.self (4096 * l.index) (256 * l.g) l.fn.stretch l.stretch
