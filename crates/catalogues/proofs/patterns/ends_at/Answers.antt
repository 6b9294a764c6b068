use Rattle.std.proofs.Common.{◌∙◌, sym}
use Rattle.catalogues.proofs.PatternLaws.{ended_first, ended_further}
use Rattle.catalogues.proofs.patterns.ends_at.Goals as goal

pub returns-then-is_further : goal.returns-then-is_further
returns-then-is_further c = λ name told. told ∙ ended_further name c.args.byte (sym c.is_further.ensures ∙ c.if-is_further.true)

pub returns-else-is_further : goal.returns-else-is_further
returns-else-is_further c = λ name told. ended_first name c.args.byte (sym c.is_further.ensures ∙ c.if-is_further.false)
