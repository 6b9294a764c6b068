use Rattle.std.proofs.Common.{◌≡◌, ◌/◌, ◌*◌, ◌<◌, max, ℕ, ap, arith}
use Rattle.download_parts.proofs.RunLemmas.{run_some, runs_low}
use Rattle.download_parts.proofs.plan.Plan.run_size.Goals as goal

-- as the code has it
max_is : (m most block : ℕ) → m ≡ max (most / block) 1 → most ≡ 32768 → m ≡ max 1 (32768 / block)
max_is m most block is fits =
    let same : most / block ≡ 32768 / block = ap (λ n. n / block) fits in
    omega (arith, is, same)

pub returns-clause-range : goal.returns-clause-range
returns-clause-range c =
    let block : c.from-block.result ≡ c.block_size.result = c.from-block.ensures in
    let some : 0 < c.from-block.result = omega (arith, block, c.block_size.ensures.range) in
    let size : c.max.result * c.from-block.result ≡ max 1 (32768 / c.from-block.result) * c.from-block.result =
    λ i. max_is c.max.result c.from.result c.from-block.result c.max.ensures c.from.ensures i * c.from-block.result in
    (omega (arith, size, run_some c.from-block.result some), omega (arith, size, runs_low c.from-block.result some (omega (arith, block, c.block_size.type_inv))))
