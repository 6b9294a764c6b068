use Rattle.std.proofs.Common.{rules, tests, eqb, ◌∙◌}
use Rattle.std.proofs.lemmas.Iterator.{YieldsList-from_slice}
use Rattle.std.proofs.lemmas.Iterator.Search.{any_from_yields_List}
use Rattle.placement.specs.Matching.{Pair}
use Rattle.placement.proofs.Members.{any-map}
use Rattle.checker.proofs.report.has_number.Goals as goal

pub returns : goal.returns
returns c =
    any_from_yields_List (λ (p : Pair). eqb p.1 c.args.number) _ _ _ c.any.ensures.ran (YieldsList-from_slice c.args.pairs.now cc) (λ x b q k. search (rules, tests))
    ∙ any-map (λ (p : Pair). p.1) c.args.pairs.now c.args.number
