use Rattle.std.proofs.Common.{map}
use Rattle.zfec_code.proofs.ShareBlocks.{WrittenBelow}
use Rattle.zfec_code.proofs.decoding.Decoder.decode.Given as goal

abbrev pub invariant-loop-primary : goal.invariant-loop-primary
invariant-loop-primary l = WrittenBelow (map (λ s. s.0) l.shares) (map (λ s. s.1.now) l.shares) l.size l.primary l.out
