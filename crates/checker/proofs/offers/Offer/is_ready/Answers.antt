use Rattle.std.proofs.Common.{◌∙◌, refl, sym, arith, ap, true≢false}
use Rattle.std.specs.Prelude.{slice_get}
use Rattle.checker.specs.declared.wanted.Wanted.{Wanted}
use Rattle.std.proofs.Common.{List}
use Rattle.checker.proofs.AheadLemmas.{first_of, none_of}
use Rattle.checker.proofs.offers.Offer.is_ready.Goals as goal

pub returns-in-Some-clause-yes : goal.returns-in-Some-clause-yes
returns-in-Some-clause-yes c = λ t.
    (let q = c.args.self.now.wanted in
    let first = first_of q.items c.in-Some.first.now (omega (arith, c.in-Some.ensures.variant.0 refl, q.ok.0)) c.in-Some.ensures.lookup in
    let read = c.is_to_read.ensures.yes t in
    record { first = c.in-Some.first.now; rest = first.0; is = first.1; bytes = read.0; came = read.1; long = λ e. read.2 e ∙ c.next_length.ensures.value })

pub returns-in-Some-clause-no : goal.returns-in-Some-clause-no
returns-in-Some-clause-no c = λ f waits all.
    (let q = c.args.self.now.wanted in
    let first = first_of q.items c.in-Some.first.now (omega (arith, c.in-Some.ensures.variant.0 refl, q.ok.0)) c.in-Some.ensures.lookup in
    let came = all 0 c.in-Some.first.now (ap (λ (l : List Wanted). slice_get l 0) first.1) in
    absurd (c.is_to_read.ensures.no f waits came.0 came.1))

pub returns-in-None-clause-yes : goal.returns-in-None-clause-yes
returns-in-None-clause-yes c = λ e. absurd (true≢false (sym e))

pub returns-in-None-clause-no : goal.returns-in-None-clause-no
returns-in-None-clause-no c = λ _ _ _.
    (let q = c.args.self.now.wanted in
    none_of q.items (λ some. true≢false (sym (c.in-None.ensures.variant.1 (omega (arith, some, q.ok.0))))))
