use Rattle.std.proofs.lemmas.Bool.Decides.{Decides-eqb}
use Rattle.std.proofs.lemmas.Slice.Eq.{strip_suffix_is}
use Rattle.share_files.proofs.AsideNames.{front_found, front_only}
use Rattle.share_files.proofs.name.front_of.Goals as goal

pub returns-clause-value : goal.returns-clause-value
returns-clause-value c = front_found c.args.text.now c.args.end.now c.strip_suffix.result (strip_suffix_is Decides-eqb c.args.text.now c.args.end.now c.strip_suffix.result c.strip_suffix.ensures.cases)

pub returns-clause-only : goal.returns-clause-only
returns-clause-only c = λ front is. front_only c.args.text.now c.args.end.now front c.strip_suffix.result (strip_suffix_is Decides-eqb c.args.text.now c.args.end.now c.strip_suffix.result c.strip_suffix.ensures.cases) is
