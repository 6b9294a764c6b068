use Rattle.std.proofs.Common.{arith}
use Rattle.cap_text.proofs.LitLemmas.{lit_buffer}
use Rattle.cap_text.proofs.cap.LitCap.new.Goals as goal

pub invariant_of-result : goal.invariant_of-result
invariant_of-result c = lit_buffer c.args.file.now c.copy_from_slice.new.self c.copy_from_slice.ensures.after c.if-file-gt-MAX_LIT_SIZE.false (λ i. omega (arith, c.type_inv.file i))
