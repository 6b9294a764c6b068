use Rattle.std.proofs.Common.{Some, sym, ◌∙◌, true≢false}
use Rattle.share_source.proofs.candidates.fetch.Goals as goal

pub returns-in-Ok-clause-refused : goal.returns-in-Ok-clause-refused
returns-in-Ok-clause-refused g c = λ no. (
  Some c.read.new.out,
  (c.read.auto.out ∙ c.requires.long, c.in-Ok.ensures.gives),
  λ has. true≢false (sym (c.has_leaf.ensures.1 (c.tagged.ensures ∙ has)) ∙ no),
)
