use Rattle.std.proofs.Common.{◌≡◌, ◌∙◌, Option, refl, sym, subst}
use Rattle.std.proofs.lemmas.Option.{get_or_from_slice_get}
use Rattle.share_reading.specs.declared.reading.ShareReading.{ShareReading}
use Rattle.checker.specs.Hearing.{Hears, IsHeard}
use Rattle.checker.specs.declared.offers.Offer.{Offer}
use Rattle.checker.proofs.HearingLemmas.{text_of}
use Rattle.checker.proofs.state.Machine.hear_piece.Goals as goal

pub hear-requires : goal.hear-requires
hear-requires c =
    let m = c.args.self.now in
    let t = c.requires.there in
    let same : c.index_mut.result.now ≡ t.0 = c.index_mut.ensures.value ∙ get_or_from_slice_get m.offers.items c.args.offer t.0 _ t.1 in
    record { hears = (t.2.0, t.2.1, subst (λ (x : Offer). Hears m.cap t.2.0 t.2.1 x c.args.reading.now c.args.piece (text_of c.args.bytes)) (sym same) t.2.2) }

pub returns-in-Some-clause-heard : goal.returns-in-Some-clause-heard
returns-in-Some-clause-heard c o at =
    let m = c.args.self.now in
    let same : c.index_mut.result.now ≡ o = c.index_mut.ensures.value ∙ get_or_from_slice_get m.offers.items c.args.offer o _ at in
    record {
      offer = c.hear.new.self;
      heard = subst (λ (x : Option ShareReading). IsHeard m.cap o c.args.reading.now c.args.piece (text_of c.args.bytes) c.hear.new.self x) c.in-Some.is
          (subst (λ (x : Offer). IsHeard m.cap x c.args.reading.now c.args.piece (text_of c.args.bytes) c.hear.new.self c.in_ok-next.field-0) same c.in_ok-next.ensures);
      is = record { cap = refl; keeps = refl; requests = refl; told = refl; owners = refl; offers_are = refl; begun_is = refl };
    }

pub returns-in-None-clause-heard : goal.returns-in-None-clause-heard
returns-in-None-clause-heard c o at =
    let m = c.args.self.now in
    let same : c.index_mut.result.now ≡ o = c.index_mut.ensures.value ∙ get_or_from_slice_get m.offers.items c.args.offer o _ at in
    record {
      offer = c.hear.new.self;
      heard = subst (λ (x : Option ShareReading). IsHeard m.cap o c.args.reading.now c.args.piece (text_of c.args.bytes) c.hear.new.self x) c.in-None.is
          (subst (λ (x : Offer). IsHeard m.cap x c.args.reading.now c.args.piece (text_of c.args.bytes) c.hear.new.self c.in_ok-next.field-0) same c.in_ok-next.ensures);
      is = record { cap = refl; keeps = refl; requests = refl; told = refl; owners = refl; offers_are = refl; begun_is = refl };
    }
