use Rattle.catalogues.proofs.PatternLaws.{quoted_none, quoted_some}
use Rattle.catalogues.proofs.patterns.is_quoted.Goals as goal

pub returns-then-byte-eq92 : goal.returns-then-byte-eq92
returns-then-byte-eq92 c = λ name told. quoted_none c.args.old.now name c.args.end.now c.args.byte c.in-None.ensures.cases c.if-byte-eq92.true told

pub returns-then-byte-x : goal.returns-then-byte-x
returns-then-byte-x c = λ name told. quoted_some c.args.old.now name c.args.end.now c.in-Some.shorter.now c.args.byte c.in-Some.x.now c.in-Some.ensures.cases.0 c.if-byte-x.true told
