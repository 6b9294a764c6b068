use Rattle.std.proofs.Common.{◌+◌, arith}
use Rattle.download_parts.proofs.PartLemmas.{some_piece}
use Rattle.download_parts.proofs.plan.Plan.next_piece.Goals as goal

pub returns-then-piece-levels-clause-piece : goal.returns-then-piece-levels-clause-piece
returns-then-piece-levels-clause-piece c =
    let p = c.args.self.now in
    some_piece p.geometry p.first p.end (c.args.piece.now.level + 1) p.range (omega (arith, c.level_count-levels.ensures.value))
