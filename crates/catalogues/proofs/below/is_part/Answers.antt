use Rattle.std.proofs.lemmas.Bool.{false≢true}
use Rattle.catalogues.proofs.PieceLaws.{not_cut}
use Rattle.catalogues.proofs.below.is_part.Goals as goal

pub returns-in-Some : goal.returns-in-Some
returns-in-Some c = (
  λ nothing. absurd (false≢true nothing),
  λ is. absurd (not_cut 0 _ _ c.args.part.now is.no_nul c.in-Some.ensures.1),
)
