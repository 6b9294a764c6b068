use Rattle.std.proofs.Common.{sym, ◌∙◌}
use Rattle.catalogues.specs.Unwritten.{unwritten}
use Rattle.catalogues.proofs.NameLaws.{written_some, is_written_name, written_name}
use Rattle.catalogues.proofs.PieceLaws.{is_some, is_nothing, same_test}
use Rattle.catalogues.proofs.name.Name.read.Goals as goal

pub returns-then-is_empty-clause-only : goal.returns-then-is_empty-clause-only
returns-then-is_empty-clause-only c = λ name is same _.
    absurd (written_some c.args.text.now name is same (is_nothing _ _ c.is_empty.ensures c.if-is_empty.true))

pub invariant_of-result : goal.invariant_of-result
invariant_of-result c =
    is_written_name c.args.text.now (is_some _ _ c.is_empty.ensures c.if-is_empty.false) (c.is_written.ensures.0 c.if-not-is_written.false)

pub returns-clause-found : goal.returns-clause-found
returns-clause-found c =
    let it = is_written_name c.args.text.now (is_some _ _ c.is_empty.ensures c.if-is_empty.false) (c.is_written.ensures.0 c.if-not-is_written.false) in
    (it.name, it.is, sym (same_test _ _ c.if-has_backslash-marked.false) ∙ c.has_backslash.ensures (unwritten c.args.text.now) it.is)

pub returns-clause-only : goal.returns-clause-only
returns-clause-only c = λ name is same _. written_name c.args.text.now name is same
