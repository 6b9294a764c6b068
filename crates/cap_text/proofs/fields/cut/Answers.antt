use Rattle.cap_text.proofs.Parts.{parts_none, parts_first}
use Rattle.cap_text.proofs.fields.cut.Goals as goal

pub returns : goal.returns
returns c = parts_none c.args.text.now c.loop-i.i c.loop-i-test.false c.loop-i.invariant

pub returns-then-c-eq58 : goal.returns-then-c-eq58
returns-then-c-eq58 c = parts_first c.args.text.now c.loop-i.i c.loop-i-test.true c.loop-i.invariant c.if-c-eq58.true
