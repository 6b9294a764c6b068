use Rattle.std.proofs.Common.{◌-◌, ◌%◌}
use Rattle.download_parts.specs.Plan.{offset_at}
use Rattle.download_parts.proofs.plan.Plan.block_offset.Goals as goal

pub returns-clause-value : goal.returns-clause-value
unfolding offset_at
returns-clause-value c =
    λ i. (c.block_start.ensures.value i - c.block_start-2.ensures.value i) % c.run_size.ensures.value i % c.from.ensures i
