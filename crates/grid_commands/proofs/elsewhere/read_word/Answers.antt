use Rattle.std.proofs.Common.{Some, arith}
use Rattle.std.proofs.lemmas.Str.Pattern.{split_parts}
use Rattle.grid_commands.proofs.ElsewhereLemmas.{spelled}
use Rattle.grid_commands.proofs.elsewhere.read_word.Goals as goal

pub returns-then-branch : goal.returns-then-branch
returns-then-branch c =
    let read = c.in-Ok.ensures.value.0 in
    record {
      digits = c.in-Some.digits.now;
      address = c.in-Some.address.now;
      parts = (split_parts 61 c.args.word.now (Some (c.in-Some.digits, c.in-Some.address)) c.in-Some.ensures.cases (omega arith)).0;
      number = spelled c.in-Some.digits.now c.in-Ok.server read.0.0 (omega (arith, read.0.1)) read.1;
      reached = c.in_ok-is_address.ensures.0 c.if-branch.true;
    }
