use Rattle.std.proofs.Common.{◌-◌, ◌*◌, arith}
use Rattle.download_parts.proofs.NumberLemmas.{end_inside, first_below_end}
use Rattle.download_parts.proofs.plan.Plan.level.Goals as goal

pub returns-clause-some : goal.returns-clause-some
returns-clause-some c =
    let row = c.height-height.result - 7 * (c.level_count.result - 1 - c.args.number) in
    let range = c.args.self.now.range in
    omega (
      arith,
      c.first_node.ensures,
      c.end_node.ensures,
      c.segment_count.ensures.value,
      first_below_end c.height-height.result row c.args.self.now.first c.args.self.now.end c.segment_count.result range.some
          (omega (arith, range.within, c.segment_count.ensures.value)),
    )

pub returns-clause-inside : goal.returns-clause-inside
returns-clause-inside c =
    let row = c.height-height.result - 7 * (c.level_count.result - 1 - c.args.number) in
    omega (
      arith,
      c.end_node.ensures,
      end_inside c.height-height.result row c.args.self.now.end c.segment_count.result (omega arith) (omega (arith, c.height-height.ensures.room, c.segment_count.ensures.value)),
    )
