use Rattle.std.proofs.Common.{arith, ◌≤◌}
use Rattle.world_script.proofs.Agreeing.{later_same, same_back, same_later}
use Rattle.world_script.proofs.agreement.are_same.Goals as goal

pub returns-then-offset-other_offset : goal.returns-then-offset-other_offset
returns-then-offset-other_offset c = (
  λ t. same_later c.args.bytes.now c.args.others.now c.args.offset c.args.other_offset c.if-offset-other_offset.true (c.go_on.ensures.0 t),
  λ same. c.go_on.ensures.1 (later_same c.args.bytes.now c.args.others.now c.args.offset c.args.other_offset c.if-offset-other_offset.true same),
)

pub returns-else-offset-other_offset : goal.returns-else-offset-other_offset
returns-else-offset-other_offset c =
    let le : c.args.other_offset ≤ c.args.offset = omega (arith, c.if-offset-other_offset.false) in (
      λ t. same_back c.args.others.now c.args.bytes.now c.args.other_offset c.args.offset (same_later c.args.others.now c.args.bytes.now c.args.other_offset c.args.offset le (c.go_on-else-offset-other_offset.ensures.0 t)),
      λ same. c.go_on-else-offset-other_offset.ensures.1 (later_same c.args.others.now c.args.bytes.now c.args.other_offset c.args.offset le (same_back c.args.bytes.now c.args.others.now c.args.offset c.args.other_offset same)),
    )
