use Rattle.std.proofs.Common.{sym, arith}
use Rattle.cap_text.proofs.Groups.{letter-small, letter-large}
use Rattle.cap_text.proofs.base32.letter_for.Goals as goal

pub returns-then-number-lt26-clause-value : goal.returns-then-number-lt26-clause-value
returns-then-number-lt26-clause-value c = sym (letter-small c.args.number c.if-number-lt26.true)

pub returns-else-number-lt26-clause-value : goal.returns-else-number-lt26-clause-value
returns-else-number-lt26-clause-value c = omega (arith, letter-large c.args.number c.if-number-lt26.false)
