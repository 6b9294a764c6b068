use Rattle.std.proofs.Common.{arith, rules}
use Rattle.ueb.proofs.Text.{no_colon_anywhere, netstring_stands, comma_stands}
use Rattle.ueb.proofs.fields.split_netstring.Goals as goal
use Rattle.ueb.proofs.fields.split_netstring.Goals.{then-rest-len-via-then-rest-len, then-rest-len-via-else-rest-len+then-rest-len-ne44}

pub returns-in_err-digits-clause-none : goal.returns-in_err-digits-clause-none
returns-in_err-digits-clause-none c =
    rw c.from_residual.ensures (λ value more e. no_colon_anywhere c.args.bytes.now value more c.in_err-digits.ensures.none e)

pub returns-in_err-len-clause-none : goal.returns-in_err-len-clause-none
returns-in_err-len-clause-none c =
    rw c.from_residual-in_err-len.ensures (λ value more e.
    let s = netstring_stands c.args.bytes.now c.in_ok-digits.digits.now c.in_ok-digits.rest.now value more (omega arith) c.in_ok-digits.ensures.found c.in_ok-digits.ensures.first e in
    c.in_err-len.ensures.none (_, s.0, s.1))

pub returns-then-rest-len-clause-none : goal.returns-then-rest-len-clause-none
returns-then-rest-len-clause-none c value more e =
    let s = netstring_stands c.args.bytes.now c.in_ok-digits.digits.now c.in_ok-digits.rest.now value more (omega arith) c.in_ok-digits.ensures.found c.in_ok-digits.ensures.first e in
    let comma = comma_stands c.in_ok-len.len c.in_ok-digits.digits.now c.in_ok-digits.rest.now value more (search rules) c.in_ok-len.ensures.value s.0 s.1 s.2 in
    elim c.then-rest-len.branch [
      | then-rest-len-via-then-rest-len w ↦ omega (arith, comma.0)
      | then-rest-len-via-else-rest-len+then-rest-len-ne44 w ↦ w.if-rest-len-ne44.true comma.1
    ]
