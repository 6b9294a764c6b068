use Rattle.std.proofs.Common.{◌≡◌, ◌∙◌, refl, subst}
use Rattle.std.proofs.lemmas.Option.{get_or_from_slice_get}
use Rattle.lemmas.proofs.Results.{on_ok_then}
use Rattle.request_record.specs.Record.{asked_more}
use Rattle.request_record.specs.declared.requests.Asked.TheVariants.{Reading}
use Rattle.checker.specs.Offers.{IsWanting}
use Rattle.checker.specs.declared.offers.Offer.{Offer}
use Rattle.checker.proofs.state.Machine.ask.Goals as goal

pub returns-clause-ok : goal.returns-clause-ok
returns-clause-ok c =
    let m = c.args.self.now in
    on_ok_then c.ask_span.result _ _ c.ask_span.ensures.ok (λ asks o at.
    (let same : c.index_mut.result.now ≡ o = c.index_mut.ensures.value ∙ get_or_from_slice_get m.offers.items c.args.offer o _ at in
    let server : c.index.result.now ≡ o = c.index.ensures ∙ get_or_from_slice_get m.offers.items c.args.offer o _ at in
    let share : c.index-2.result.now ≡ o = c.index-2.ensures ∙ get_or_from_slice_get m.offers.items c.args.offer o _ at in
    record {
      cap = refl;
      keeps = refl;
      told = refl;
      begun = refl;
      ahead = refl;
      requests = asks ∙ (λ i. asked_more (server i).server (Reading (share i).share c.args.span.now.offset c.args.span.now.length) m.requests);
      owners = c.in_ok-push.ensures.items;
      offer = c.want.new.self;
      offers = refl;
      more = subst (λ p. IsWanting p o c.want.new.self) c.len-position.ensures.value (subst (λ (x : Offer). IsWanting c.len-position.result x c.want.new.self) same c.in_ok-want.ensures);
    }))
