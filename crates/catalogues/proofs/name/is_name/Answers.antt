use Rattle.std.proofs.lemmas.Bool.{false≢true, not-true, not_from_false}
use Rattle.catalogues.proofs.NameLaws.{no_nul_lacks, lacks_no_nul}
use Rattle.catalogues.proofs.PieceLaws.{not_cut, is_some, some_is}
use Rattle.catalogues.proofs.name.is_name.Goals as goal

pub returns-in-Some : goal.returns-in-Some
returns-in-Some c = (
  λ no_one. absurd (false≢true no_one),
  λ is. absurd (not_cut 0 _ _ c.args.name.now (no_nul_lacks c.args.name.now is.no_nul) c.in-Some.ensures.1),
)

pub returns-in-None : goal.returns-in-None
returns-in-None c = (
  λ some. record {
    some = is_some c.is_empty.result c.args.name.now c.is_empty.ensures (not-true _ some);
    no_nul = lacks_no_nul c.args.name.now c.in-None.ensures;
  },
  λ is. not_from_false c.is_empty.result (some_is c.is_empty.result c.args.name.now c.is_empty.ensures is.some),
)
