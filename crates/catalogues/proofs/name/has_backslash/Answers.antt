use Rattle.catalogues.proofs.NameLaws.{with_backslash, without_backslash}
use Rattle.catalogues.proofs.name.has_backslash.Goals as goal

pub returns-in-Some : goal.returns-in-Some
returns-in-Some c = λ name same. with_backslash c.args.text.now _ _ name c.in-Some.ensures.1 same

pub returns-in-None : goal.returns-in-None
returns-in-None c = λ name same. without_backslash c.args.text.now name c.in-None.ensures same
