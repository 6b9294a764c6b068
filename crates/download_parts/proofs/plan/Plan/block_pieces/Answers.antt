use Rattle.std.proofs.Common.{◌≡◌, ◌+◌, ◌-◌, ◌<◌, ap, ◌∙◌, arith}
use Rattle.share_layout.specs.Pieces.{block_length}
use Rattle.download_parts.specs.Plan.{block_start, piece_at}
use Rattle.download_parts.proofs.PartLemmas.{block_within, data_more}
use Rattle.download_parts.proofs.plan.Plan.block_pieces.Goals as goal

pub returns-clause-some : goal.returns-clause-some
returns-clause-some c =
    let p = c.args.self.now in
    let begin = c.block_start-begin.result in
    let some : 0 < c.from.result = omega (arith, c.from.ensures, c.block_length.ensures.range) in
    omega (arith, c.piece_at.ensures.value, c.piece_at-2.ensures.value, data_more p.geometry p.range.valid p.first begin (begin + c.from.result - 1) (omega (arith, some)))

pub returns-clause-within : goal.returns-clause-within
returns-clause-within c =
    let p = c.args.self.now in
    let long : c.from.result ≡ block_length p.geometry c.args.segment = c.from.ensures ∙ c.block_length.ensures.value in
    let last : c.block_start-begin.result + c.from.result - 1 ≡ block_start p.geometry c.args.segment + block_length p.geometry c.args.segment - 1 =
    λ i. c.block_start-begin.ensures.value i + long i - 1 in
    let within = block_within p.geometry p.first p.end c.args.segment p.range c.requires.from c.requires.before (omega (arith, c.block_length.ensures.value, c.block_length.ensures.range)) in
    omega (arith, c.piece_at-2.ensures.value ∙ ap (piece_at p.geometry p.first) last, within)
