use Rattle.std.proofs.Common.{◌∙◌, sym, arith, true≢false}
use Rattle.std.proofs.lemmas.Bool.{eqb-true}
use Rattle.checker.proofs.wanted.Came.is_to_read.Goals as goal

pub returns-then-not-waits-clause-yes : goal.returns-then-not-waits-clause-yes
returns-then-not-waits-clause-yes c = λ _. (c.in-Bytes.bytes, c.in-Bytes.is, λ waits. absurd (true≢false (sym waits ∙ c.if-not-waits.true)))

pub returns-else-not-waits-clause-yes : goal.returns-else-not-waits-clause-yes
returns-else-not-waits-clause-yes c = λ same. (c.in-Bytes.bytes, c.in-Bytes.is, λ _. omega (arith, eqb-true c.len.result c.args.count same, c.len.ensures, c.in-Bytes.bytes.ok.0))
