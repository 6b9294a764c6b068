use Rattle.std.proofs.Common.{length, sym, ap, ◌∙◌}
use Rattle.cap_text.proofs.Bits.{length-bits}
use Rattle.cap_text.proofs.bit_queue.BitQueue.len.Goals as goal

pub returns : goal.returns
returns c = sym (length-bits c.self.inside.count c.self.inside.number) ∙ ap length c.self.view_is
