use Rattle.std.proofs.Common.{arith}
use Rattle.download_parts.proofs.PartLemmas.{some_piece}
use Rattle.download_parts.proofs.plan.Plan.first_piece.Goals as goal

pub returns-then-level_count-gt0-clause-piece : goal.returns-then-level_count-gt0-clause-piece
returns-then-level_count-gt0-clause-piece c =
    let p = c.args.self.now in
    some_piece p.geometry p.first p.end 0 p.range (omega (arith, c.level_count.ensures.value))
