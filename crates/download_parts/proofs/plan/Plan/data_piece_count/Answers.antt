use Rattle.std.proofs.Common.{arith}
use Rattle.download_parts.proofs.PartLemmas.{data_begins}
use Rattle.download_parts.proofs.plan.Plan.data_piece_count.Goals as goal

pub overflow_sub-data_end : goal.overflow_sub-data_end
overflow_sub-data_end c =
    let p = c.args.self.now in
    omega (arith, c.data_end.ensures.value, data_begins p.geometry p.first p.end p.range)

pub piece_at-requires-clause-from : goal.piece_at-requires-clause-from
piece_at-requires-clause-from c =
    let p = c.args.self.now in
    omega (arith, c.data_end.ensures.value, data_begins p.geometry p.first p.end p.range)
