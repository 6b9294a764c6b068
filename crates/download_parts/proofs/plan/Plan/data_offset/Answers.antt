use Rattle.std.proofs.Common.{◌≡◌, ◌+◌, ◌-◌, ◌*◌, ◌/◌, ◌%◌, ◌≤◌, ◌^◌, arith}
use Rattle.download_parts.specs.Plan.{block_start, data_offset, run_reads, run_size}
use Rattle.download_parts.proofs.PartLemmas.{data_low, runs_before}
use Rattle.download_parts.proofs.plan.Plan.data_offset.Goals as goal

pub returns-clause-value : goal.returns-clause-value
unfolding data_offset
returns-clause-value c =
    λ i. c.block_start.ensures.value i + c.from.ensures i / c.run_reads.ensures.value i * c.run_size.ensures.value i
    + c.from-3.ensures i * (c.from-2.ensures i % c.run_reads-2.ensures.value i)

-- the offset is not far
low : (c : goal.After-from-3) → data_offset c.args.self.now.geometry c.args.self.now.first c.args.index ≤ 2 ^ 48 - 1
low c =
    let p = c.args.self.now in
    let first : block_start p.geometry p.first ≤ 2 ^ 40 + 68 = omega (arith, c.block_start.ensures.value, c.block_start.ensures.low) in
    omega (arith, data_low p.geometry p.range.valid p.first c.args.index (omega (arith, c.ranges.index.fits)) first)

pub returns-clause-low : goal.returns-clause-low
returns-clause-low c = omega (arith, returns-clause-value c, low c)

pub overflow_add-result-2 : goal.overflow_add-result-2
overflow_add-result-2 c = omega (arith, returns-clause-value c, low c)

pub overflow_add-result : goal.overflow_add-result
overflow_add-result c =
    let p = c.args.self.now in
    let runs : c.from.result / c.run_reads.result * c.run_size.result ≡ c.args.index / run_reads p.geometry * run_size p.geometry =
    λ i. c.from.ensures i / c.run_reads.ensures.value i * c.run_size.ensures.value i in
    omega (arith, runs, runs_before p.geometry p.range.valid p.first c.args.index, c.ranges.index.fits, c.block_start.ensures.low)
