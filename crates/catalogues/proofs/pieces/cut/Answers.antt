use Rattle.std.proofs.Common.{arith}
use Rattle.catalogues.proofs.PieceLaws.{lacks_at, lacks_before, cut_at}
use Rattle.catalogues.proofs.pieces.cut.Goals as goal

pub returns : goal.returns
returns c = lacks_at c.args.byte c.args.text.now (λ k inside. c.loop-i.invariant k (omega arith))

pub returns-then-c-byte : goal.returns-then-c-byte
returns-then-c-byte c = (
  lacks_before c.args.byte c.args.text.now c.loop-i.i c.loop-i-test.true c.loop-i.invariant,
  cut_at c.args.byte c.args.text.now c.loop-i.i c.loop-i-test.true c.if-c-byte.true,
)
