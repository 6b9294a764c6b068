use Rattle.std.proofs.Common.{rules, tests, ap, eqb, not}
use Rattle.std.proofs.lemmas.Iterator.{YieldsList-from_slice}
use Rattle.std.proofs.lemmas.Iterator.Search.{any_from_yields_List}
use Rattle.checker.specs.declared.status.ShareVerdict.{ShareVerdict}
use Rattle.grid_rules.proofs.checking_json.is_missing.Goals as goal

pub returns : goal.returns
returns c =
    ap not (any_from_yields_List (λ (v : ShareVerdict). eqb v.share c.args.number) _ _ _
    c.any.ensures.ran (YieldsList-from_slice c.args.verdicts.now cc)
    (λ x b q k. search (rules, tests)))
