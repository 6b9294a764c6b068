use Rattle.std.proofs.Common.{get_or, ap, ◌∙◌, arith}
use Rattle.std.specs.Int.{bit_at}
use Rattle.aes_ctr.proofs.SliceLemmas.{first_long, second_long, first_lane, second_lane, bytes_below, bytes_below_second, first_4, second_4}
use Rattle.aes_ctr.proofs.slices.exchanged_4.Goals as goal

pub returns-clause-long : goal.returns-clause-long
returns-clause-long c = (
  first_long 4 15 c.args.low c.args.high c.fits-low.0 c.fits-high.0,
  second_long 4 240 c.args.low c.args.high c.fits-low.0 c.fits-high.0,
)

pub returns-clause-bytes : goal.returns-clause-bytes
returns-clause-bytes c p below = (
  bytes_below 4 15 c.args.low c.args.high c.fits-low.0 c.fits-high.0 p below (omega arith),
  bytes_below_second 4 240 c.args.low c.args.high c.fits-low.0 c.fits-high.0 p below (omega arith),
)

pub returns-clause-first : goal.returns-clause-first
returns-clause-first c p b below within =
    ap (λ x. bit_at x b) (first_lane 4 15 c.args.low c.args.high c.fits-low.0 c.fits-high.0 p below) ∙ first_4 (get_or c.args.low p 0) (get_or c.args.high p 0) b within

pub returns-clause-second : goal.returns-clause-second
returns-clause-second c p b below within =
    ap (λ x. bit_at x b) (second_lane 4 240 c.args.low c.args.high c.fits-low.0 c.fits-high.0 p below) ∙ second_4 (get_or c.args.low p 0) (get_or c.args.high p 0) b within
