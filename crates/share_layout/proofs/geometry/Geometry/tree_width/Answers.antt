use Rattle.std.proofs.Common.{arith}
use Rattle.std.proofs.Math.Nat.{pow-le-pow_right}
use Rattle.std.proofs.lemmas.Nat.{one_shl, pow_pos}
use Rattle.merkle.proofs.HeightLemmas.{height_low}
use Rattle.share_layout.proofs.geometry.Geometry.tree_width.Goals as goal

pub overflow_shl-result : goal.overflow_shl-result
overflow_shl-result c = omega (arith, height_low c.segment_count.result c.height.result 20 (omega arith) c.height.ensures.least)

pub returns-clause-range : goal.returns-clause-range
returns-clause-range c =
    let low = height_low c.segment_count.result c.height.result 20 (omega arith) c.height.ensures.least in
    let power = one_shl c.height.result 32 (omega (arith, low)) in
    rw power (omega (arith, pow_pos c.height.result), omega (arith, pow-le-pow_right {n = 2} (omega arith) {i = c.height.result} {j = 20} low))
