use Rattle.std.proofs.Common.{arith}
use Rattle.download_parts.proofs.PartLemmas.{data_inside, data_rises, data_short, pieces_low}
use Rattle.download_parts.proofs.plan.Plan.read_data.Goals as goal

pub overflow_add-index : goal.overflow_add-index
overflow_add-index c =
    let p = c.args.self.now in
    omega (arith, c.requires, pieces_low p.geometry p.first p.end p.range)

pub overflow_sub-result : goal.overflow_sub-result
overflow_sub-result c =
    let p = c.args.self.now in
    omega (arith, c.data_offset-offset.ensures.value, c.data_offset.ensures.value, c.data_end.ensures.value, c.min-end.ensures, data_inside p.geometry p.first p.end c.args.index p.range c.requires, data_rises p.geometry p.range.valid p.first c.args.index)

pub returns-clause-range : goal.returns-clause-range
returns-clause-range c =
    let p = c.args.self.now in
    let inside = data_inside p.geometry p.first p.end c.args.index p.range c.requires in
    let rises = data_rises p.geometry p.range.valid p.first c.args.index in
    let most = data_short p.geometry p.range.valid p.first c.args.index in (
      omega (arith, c.data_offset-offset.ensures.value, c.data_offset.ensures.value, c.data_end.ensures.value, c.min-end.ensures, inside, rises),
      omega (arith, c.data_offset-offset.ensures.value, c.data_offset.ensures.value, c.data_end.ensures.value, c.min-end.ensures, most),
    )

pub overflow_cast-result : goal.overflow_cast-result
overflow_cast-result c = let range = returns-clause-range c in omega (arith, range.1)
