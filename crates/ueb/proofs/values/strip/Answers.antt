use Rattle.std.proofs.lemmas.Bool.Decides.{Decides-eqb}
use Rattle.std.proofs.lemmas.Slice.Eq.{strip_prefix_is}
use Rattle.ueb.proofs.ValueTexts.{strip_found, strip_none}
use Rattle.ueb.proofs.values.strip.Goals as goal

pub returns-clause-found : goal.returns-clause-found
returns-clause-found c = strip_found c.args.text.now c.args.prefix.now c.strip_prefix.result (strip_prefix_is Decides-eqb c.args.text.now c.args.prefix.now c.strip_prefix.result c.strip_prefix.ensures.cases)

pub returns-clause-none : goal.returns-clause-none
returns-clause-none c = strip_none c.args.text.now c.args.prefix.now c.strip_prefix.result (strip_prefix_is Decides-eqb c.args.text.now c.args.prefix.now c.strip_prefix.result c.strip_prefix.ensures.cases)
