use Rattle.std.proofs.Common.{◌*◌, get_or}
use Rattle.zfec_code.proofs.RowLemmas.{AreSums}
use Rattle.zfec_code.proofs.sums.combine.Given as goal

abbrev pub invariant-loop-i : goal.invariant-loop-i
invariant-loop-i g l = AreSums (λ m. get_or l.row m 0) (g.B.Blocks.block l.blocks) (l.i * 3) l.out

abbrev pub invariant-loop-j : goal.invariant-loop-j
invariant-loop-j g l = AreSums (λ m. get_or l.row m 0) (g.B.Blocks.block l.blocks) l.j l.out
