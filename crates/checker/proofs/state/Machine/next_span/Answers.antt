use Rattle.std.proofs.Common.{◌≡◌, ◌∙◌, ap, length, arith}
use Rattle.std.proofs.lemmas.Option.{get_or_from_slice_get}
use Rattle.checker.specs.declared.offers.Offer.{Offer}
use Rattle.checker.proofs.AskingMoves.{fewer_span, is_next_span, some_span}
use Rattle.checker.proofs.state.Machine.next_span.Goals as goal

pub returns-then-most-count-clause-none : goal.returns-then-most-count-clause-none
returns-then-most-count-clause-none c o at = λ e.
    (let same : c.index.result.now ≡ o = c.index.ensures ∙ get_or_from_slice_get c.args.self.now.offers.items c.args.offer o _ at in
    omega (arith, ap (λ (x : Offer). length x.wanted.items) same, ap length e, c.len-count.ensures, c.index.result.now.wanted.ok.0, c.max-most.ensures, c.if-most-count.true))

pub returns-clause-span : goal.returns-clause-span
returns-clause-span c o at =
    let same : c.index.result.now ≡ o = c.index.ensures ∙ get_or_from_slice_get c.args.self.now.offers.items c.args.offer o _ at in
    is_next_span c.span_ahead.result c.args.reading.now c.len-count.result o (c.len-count.ensures ∙ c.index.result.now.wanted.ok.0 ∙ ap (λ (x : Offer). length x.wanted.items) same)
    c.span_ahead.ensures.ahead c.span_ahead.ensures.offset c.span_ahead.ensures.length

pub returns-clause-fewer : goal.returns-clause-fewer
returns-clause-fewer c o at =
    let same : c.index.result.now ≡ o = c.index.ensures ∙ get_or_from_slice_get c.args.self.now.offers.items c.args.offer o _ at in
    fewer_span c.span_ahead.result _ (omega (arith, ap (λ (x : Offer). length x.wanted.items) same, c.len-count.ensures, c.index.result.now.wanted.ok.0, c.max-most.ensures, c.if-most-count.false))

pub returns-clause-none : goal.returns-clause-none
returns-clause-none c o at =
    let same : c.index.result.now ≡ o = c.index.ensures ∙ get_or_from_slice_get c.args.self.now.offers.items c.args.offer o _ at in
    some_span c.span_ahead.result c.args.reading.now c.len-count.result o (c.len-count.ensures ∙ c.index.result.now.wanted.ok.0 ∙ ap (λ (x : Offer). length x.wanted.items) same) c.span_ahead.ensures.none
