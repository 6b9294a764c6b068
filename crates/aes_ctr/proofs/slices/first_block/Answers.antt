use Rattle.std.proofs.Common.{◌++◌, List, get_or, map, ap, arith}
use Rattle.std.specs.List.{range_with_len}
use Rattle.aes_ctr.proofs.slices.first_block.Goals as goal

pub returns : goal.returns
returns c = ap (λ (v : List _). map (λ k. get_or (v ++ v) k 0) (range_with_len 0 16)) (c.transposed.ensures.blocks 0 (omega arith))
