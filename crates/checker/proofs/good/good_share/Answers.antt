use Rattle.std.proofs.Common.{◌∙◌, List, ap, subst, sym}
use Rattle.std.specs.Prelude.{slice_get}
use Rattle.checker.specs.Good.{IsFound}
use Rattle.checker.specs.declared.offers.Offer.{Offer}
use Rattle.checker.proofs.GoodLemmas.{found_at, good_offered}
use Rattle.checker.proofs.good.good_share.Goals as goal

pub returns-in_ok-joined-in-Some-clause-some : goal.returns-in_ok-joined-in-Some-clause-some
returns-in_ok-joined-in-Some-clause-some c =
    let m = c.args.machine.now in
    let bytes = c.in_ok-joined-in-Some.field-0.items in
    let some = c.in-Some.ensures.some in
    subst (λ n. IsFound m.cap m.requests.entries n bytes) some.2
    (found_at m c.requires.done c.requires.keeps some.0 c.in-Some.offer.now (ap (λ (l : List Offer). slice_get l some.0) (sym c.deref.ensures.value) ∙ some.1) some.3 bytes c.in_ok-joined-in-Some.ensures)

pub returns-in-None-clause-none : goal.returns-in-None-clause-none
returns-in-None-clause-none c has =
    let found = good_offered c.args.machine.now c.requires.done c.args.number has in
    c.in-None.ensures.none found.position found.offer (ap (λ (l : List Offer). slice_get l found.position) c.deref.ensures.value ∙ found.there) found.number found.good
