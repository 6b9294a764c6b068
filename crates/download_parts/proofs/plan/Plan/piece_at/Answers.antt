use Rattle.std.proofs.Common.{◌+◌, ◌-◌, ◌*◌, ◌/◌, ◌%◌, arith}
use Rattle.download_parts.specs.Plan.{piece_at}
use Rattle.download_parts.proofs.PartLemmas.{data_few}
use Rattle.download_parts.proofs.plan.Plan.piece_at.Goals as goal

pub returns-clause-value : goal.returns-clause-value
unfolding piece_at
returns-clause-value c =
    λ i. (c.args.offset - c.block_start.ensures.value i) / c.run_size.ensures.value i * c.run_reads.ensures.value i
    + (c.args.offset - c.block_start.ensures.value i) % c.run_size-2.ensures.value i / c.from.ensures i

pub returns-clause-low : goal.returns-clause-low
returns-clause-low c =
    let p = c.args.self.now in
    omega (arith, returns-clause-value c, data_few p.geometry p.range.valid p.first c.args.offset, c.requires.low)

pub overflow_cast-result : goal.overflow_cast-result
overflow_cast-result c =
    let p = c.args.self.now in
    omega (arith, returns-clause-value c, data_few p.geometry p.range.valid p.first c.args.offset, c.requires.low)
