use Rattle.std.proofs.Common.{◌≡◌, sym, ap, subst, ◌∙◌}
use Rattle.std.specs.List.{AllByRecursion}
use Rattle.std.specs.Option.{option_copied}
use Rattle.catalogues.specs.Below.{IsPart, IsBelow, parts_of}
use Rattle.catalogues.specs.PartsLeft.{parts_left}
use Rattle.catalogues.proofs.BelowLaws.{first_part, one_part, below_rest, one_below}
use Rattle.catalogues.proofs.below.Parts.next_part.Goals as goal

pub invariant_of-self : goal.invariant_of-self
invariant_of-self c =
    let left : parts_left (option_copied c.self.inside.left) ≡ parts_of c.in-Some.left.now =
    ap (λ o. parts_left (option_copied o)) c.in-Some.is in
    let below : IsBelow c.in-Some.left.now = subst (AllByRecursion IsPart) left c.self.invariant in
    (below_rest c.in-Some.left.now c.in-Some-cut.part.now c.in-Some-cut.rest.now c.in-Some-cut.ensures.0 c.in-Some-cut.ensures.1 below).1

pub returns-in-Some-cut-clause-next : goal.returns-in-Some-cut-clause-next
returns-in-Some-cut-clause-next c =
    let left : parts_left (option_copied c.self.inside.left) ≡ parts_of c.in-Some.left.now =
    ap (λ o. parts_left (option_copied o)) c.in-Some.is in
    sym c.self.view_is ∙ left ∙ first_part c.in-Some.left.now c.in-Some-cut.part.now c.in-Some-cut.rest.now c.in-Some-cut.ensures.0 c.in-Some-cut.ensures.1

pub returns-in-Some-cut-clause-part : goal.returns-in-Some-cut-clause-part
returns-in-Some-cut-clause-part c =
    let left : parts_left (option_copied c.self.inside.left) ≡ parts_of c.in-Some.left.now =
    ap (λ o. parts_left (option_copied o)) c.in-Some.is in
    let below : IsBelow c.in-Some.left.now = subst (AllByRecursion IsPart) left c.self.invariant in
    (below_rest c.in-Some.left.now c.in-Some-cut.part.now c.in-Some-cut.rest.now c.in-Some-cut.ensures.0 c.in-Some-cut.ensures.1 below).0

pub returns-in-None-clause-next : goal.returns-in-None-clause-next
returns-in-None-clause-next c =
    let left : parts_left (option_copied c.self.inside.left) ≡ parts_of c.in-Some.left.now =
    ap (λ o. parts_left (option_copied o)) c.in-Some.is in
    sym c.self.view_is ∙ left ∙ one_part c.in-Some.left.now c.in-None.ensures

pub returns-in-None-clause-part : goal.returns-in-None-clause-part
returns-in-None-clause-part c =
    let left : parts_left (option_copied c.self.inside.left) ≡ parts_of c.in-Some.left.now =
    ap (λ o. parts_left (option_copied o)) c.in-Some.is in
    let below : IsBelow c.in-Some.left.now = subst (AllByRecursion IsPart) left c.self.invariant in
    one_below c.in-Some.left.now c.in-None.ensures below
