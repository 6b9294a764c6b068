use Rattle.std.proofs.Common.{rules}
use Rattle.grid_marks.proofs.MarkLaws.{identity_part, long_enough}
use Rattle.grid_marks.proofs.mark.identity_in.Goals as goal

pub returns-then-text-lt-IDENTITY_END : goal.returns-then-text-lt-IDENTITY_END
returns-then-text-lt-IDENTITY_END c = λ identity rest bytes is.
    long_enough c.args.text.now identity rest bytes.len is c.if-text-lt-IDENTITY_END.true

pub returns-then-not-from_base32 : goal.returns-then-not-from_base32
returns-then-not-from_base32 c = λ identity rest bytes is.
    let yes = (c.from_base32.ensures.only identity bytes (identity_part c.args.text.now identity rest bytes.len is)).0 in
    search rules

pub returns : goal.returns
returns c = λ identity rest bytes is.
    (c.from_base32.ensures.only identity bytes (identity_part c.args.text.now identity rest bytes.len is)).1
