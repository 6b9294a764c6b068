use Rattle.std.proofs.Common.{◌≡◌, ◌∙◌, sym, subst}
use Rattle.std.specs.Prelude.{Result, Ok, Err, IfOk, OnOk}
use Rattle.disks.specs.declared.whole.Published.{Published}
use Rattle.disks.specs.declared.whole.Published.TheVariants as published
use Rattle.disks.specs.declared.whole.Unmade.{Unmade}
use Rattle.disks.proofs.Moments.{weaker}
use Rattle.disks.proofs.Sparing.{all_beside, beside_all, beside_any, beside_keeps, beside_on, beside_then}
use Rattle.disks.proofs.whole.publish.Goals as goal

-- what is told as linked was linked
durable_where : (r named : Result Published Unmade) (p : Published) (S Q : Type 0) → IfOk r (λ (told : Published). told ≡ p) → named ≡ Ok p
    → IfOk named (λ (q : Published). q ≡ published.Linked → S) → (S → OnOk r Q) → IfOk r (λ (told : Published). told ≡ published.Linked → Q)
durable_where (Err e) named p S Q same is linked then = tt
durable_where (Ok told) named p S Q same is linked then = λ e.
    then ((subst (λ (n : Result Published Unmade). IfOk n (λ (q : Published). q ≡ published.Linked → S)) is linked) (sym same ∙ e))

-- what is told as written was written
written_where : (r named : Result Published Unmade) (p : Published) (S Q : Type 0) → IfOk r (λ (told : Published). told ≡ p) → named ≡ Ok p
    → IfOk named (λ (q : Published). q ≡ published.Written → S) → (S → Q) → IfOk r (λ (told : Published). told ≡ published.Written → Q)
written_where (Err e) named p S Q same is written then = tt
written_where (Ok told) named p S Q same is written then = λ e.
    then ((subst (λ (n : Result Published Unmade). IfOk n (λ (q : Published). q ≡ published.Written → S)) is written) (sym same ∙ e))

pub returns-in-Ok-named_alone-clause-written : goal.returns-in-Ok-named_alone-clause-written
returns-in-Ok-named_alone-clause-written g c honest =
    let last = c.args.last.now in
    let bytes = c.args.bytes.now in
    let removed = c.end_published.ensures.so_far honest in
    written_where c.end_published.result c.link_or_write-named.result c.in-Ok-named_alone.published _ _ c.end_published.ensures.same c.in-Ok-named_alone.ensures.same
    (c.link_or_write-named.ensures.written (c.take_away-removed.ensures.so_far removed))
    (λ is. c.end_published.ensures.owned honest last bytes (c.take_away-removed.ensures.owned removed last bytes (λ same. c.requires.apart (sym same)) is))

pub returns-in-Ok-named_alone-clause-durable : goal.returns-in-Ok-named_alone-clause-durable
returns-in-Ok-named_alone-clause-durable g c honest lasting =
    let last = c.args.last.now in
    let bytes = c.args.bytes.now in
    let removed = c.end_published.ensures.so_far honest in
    let alone = c.take_away-removed.ensures.so_far removed in
    let is = c.in-Ok.ensures.made (c.link_or_write-named.ensures.so_far alone) in
    durable_where c.end_published.result c.link_or_write-named.result c.in-Ok-named_alone.published _ _ c.end_published.ensures.same c.in-Ok-named_alone.ensures.same
    (c.link_or_write-named.ensures.linked alone _ is)
    (λ stands. c.end_published.ensures.durable honest last bytes lasting
    (c.take_away-removed.ensures.stands removed last bytes lasting (λ same. c.requires.apart (sym same)) (stands lasting)))

pub returns-in-Ok-named_alone-clause-spared : goal.returns-in-Ok-named_alone-clause-spared
returns-in-Ok-named_alone-clause-spared g c honest =
    let removed = c.end_published.ensures.so_far honest in
    let own = c.args.own.now in
    let alone = c.take_away-removed.ensures.so_far removed in
    let made = c.link_or_write-named.ensures.so_far alone in
    let is = c.in-Ok.ensures.made made in
    let free = c.in-Ok.ensures.free made in
    all_beside own _ _ free
    (beside_on own _ _ _ (beside_all own _ _ (c.make_synced.ensures.spared made))
    (beside_on own _ _ _ (beside_all own _ _ (c.link_or_write-named.ensures.spared alone _ is))
    (beside_on own _ _ _ (beside_keeps own _ _ (c.take_away-removed.ensures.kept removed)) (beside_any own _ _ (c.end_published.ensures.kept honest own)))))

pub returns-in-Ok-named_alone-clause-any_moment : goal.returns-in-Ok-named_alone-clause-any_moment
returns-in-Ok-named_alone-clause-any_moment g c honest =
    let removed = c.end_published.ensures.so_far honest in
    let own = c.args.own.now in
    let alone = c.take_away-removed.ensures.so_far removed in
    let made = c.link_or_write-named.ensures.so_far alone in
    let is = c.in-Ok.ensures.made made in
    let free = c.in-Ok.ensures.free made in
    let first = beside_all own _ _ (c.make_synced.ensures.spared made) in
    let second = beside_on own _ _ _ first (beside_all own _ _ (c.link_or_write-named.ensures.spared alone _ is)) in
    let third = beside_on own _ _ _ second (beside_keeps own _ _ (c.take_away-removed.ensures.kept removed)) in
    beside_then own _ _ _ _ _ free third
    (beside_then own _ _ _ _ _ free second
    (beside_then own _ _ _ _ _ free first (c.make_synced.ensures.any_moment made)
    (weaker _ _ _ _ (λ u all. beside_all own _ u all) (c.link_or_write-named.ensures.any_moment alone _ is)))
    (weaker _ _ _ _ (λ u keeps. beside_keeps own _ u keeps) (c.take_away-removed.ensures.any_moment removed)))
    (weaker _ _ _ _ (λ u keeps. beside_any own _ u keeps) (c.end_published.ensures.any_moment honest own))

pub returns-in-Err-named_alone-clause-spared : goal.returns-in-Err-named_alone-clause-spared
returns-in-Err-named_alone-clause-spared g c honest =
    let own = c.args.own.now in
    let alone = c.take_away-removed.ensures.so_far honest in
    let made = c.link_or_write-named.ensures.so_far alone in
    let is = c.in-Ok.ensures.made made in
    let free = c.in-Ok.ensures.free made in
    all_beside own _ _ free
    (beside_on own _ _ _ (beside_all own _ _ (c.make_synced.ensures.spared made))
    (beside_on own _ _ _ (beside_all own _ _ (c.link_or_write-named.ensures.spared alone _ is)) (beside_keeps own _ _ (c.take_away-removed.ensures.kept honest))))

pub returns-in-Err-named_alone-clause-any_moment : goal.returns-in-Err-named_alone-clause-any_moment
returns-in-Err-named_alone-clause-any_moment g c honest =
    let own = c.args.own.now in
    let alone = c.take_away-removed.ensures.so_far honest in
    let made = c.link_or_write-named.ensures.so_far alone in
    let is = c.in-Ok.ensures.made made in
    let free = c.in-Ok.ensures.free made in
    let first = beside_all own _ _ (c.make_synced.ensures.spared made) in
    let second = beside_on own _ _ _ first (beside_all own _ _ (c.link_or_write-named.ensures.spared alone _ is)) in
    beside_then own _ _ _ _ _ free second
    (beside_then own _ _ _ _ _ free first (c.make_synced.ensures.any_moment made)
    (weaker _ _ _ _ (λ u all. beside_all own _ u all) (c.link_or_write-named.ensures.any_moment alone _ is)))
    (weaker _ _ _ _ (λ u keeps. beside_keeps own _ u keeps) (c.take_away-removed.ensures.any_moment honest))
