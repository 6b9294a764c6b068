use Rattle.std.proofs.Common.{◌≡◌, ◌+◌, ◌*◌, arith}
use Rattle.download_parts.specs.Plan.{block_start}
use Rattle.download_parts.proofs.PartLemmas.{block_low}
use Rattle.download_parts.proofs.plan.Plan.block_start.Goals as goal

pub returns-clause-low : goal.returns-clause-low
returns-clause-low c =
    let g = c.args.self.now.geometry in
    let offset : c.header_size-header.result + c.from.result * c.from-2.result ≡ block_start g c.args.segment = cc in
    omega (arith, offset, block_low g c.args.segment c.block_size.ensures.valid c.requires.there)
