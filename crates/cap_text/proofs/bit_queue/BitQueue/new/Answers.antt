use Rattle.std.proofs.Common.{refl}
use Rattle.cap_text.specs.Base32.{bits}
use Rattle.cap_text.proofs.bit_queue.BitQueue.new.Goals as goal

pub returns : goal.returns
unfolding bits
returns c = refl
