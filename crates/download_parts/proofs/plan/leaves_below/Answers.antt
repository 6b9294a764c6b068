use Rattle.std.proofs.Common.{◌≤◌, arith}
use Rattle.std.proofs.Math.Nat.{pow-le-pow_right}
use Rattle.std.proofs.lemmas.Nat.{one_shl, pow_pos}
use Rattle.download_parts.proofs.plan.leaves_below.Goals as goal

pub returns-clause-range : goal.returns-clause-range
returns-clause-range c =
    let k = c.saturating_sub.result in
    let low : c.saturating_sub.result ≤ 20 = omega (arith, c.saturating_sub.ensures) in
    let power = one_shl k 32 (omega (arith, low)) in
    rw power (omega (arith, pow_pos k), omega (arith, pow-le-pow_right {n = 2} (omega arith) {i = k} {j = 20} low))
