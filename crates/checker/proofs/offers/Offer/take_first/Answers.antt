use Rattle.std.proofs.Common.{◌∙◌, length, ap, arith, sym, ◌∷◌}
use Rattle.lemmas.proofs.Results.{if_ok_then}
use Rattle.std.specs.declared.collections.VecDeque.{VecDeque}
use Rattle.std.proofs.Common.{Global}
use Rattle.checker.specs.declared.wanted.Wanted.{Wanted}
use Rattle.checker.proofs.AheadLemmas.{none_is_some, popped, same_first}
use Rattle.checker.proofs.HearingLemmas.{retaken, underway_of}
use Rattle.checker.proofs.offers.Offer.take_first.Goals as goal

pub unreachable-requires : goal.unreachable-requires
unreachable-requires c =
    let q = c.args.self.now.wanted in
    none_is_some c.pop_front.result c.in_default.is (c.pop_front.ensures.variant.1 (omega (arith, ap length c.requires.ready.1.is, q.ok.0)))

pub unreachable-unreachable : goal.unreachable-unreachable
unreachable-unreachable c = c.unreachable.result

pub into_bytes-bytes-requires : goal.into_bytes-bytes-requires
into_bytes-bytes-requires c =
    let q = c.args.self.now.wanted in
    let ready = c.requires.ready.1 in
    let first = same_first q.items c.in-Some.field-0 ready.first c.pop_front.new.self.items ready.rest (popped q.items c.pop_front.new.self.items c.pop_front.result c.in-Some.field-0 c.pop_front.ensures.items c.in-Some.is) ready.is in
    (ready.bytes, ap (λ (w : Wanted). w.came) first ∙ ready.came)

pub take-requires : goal.take-requires
take-requires c = record { underway = underway_of c.args.cap.now c.requires.is.0 c.requires.is.1 c.args.self.now c.args.reading.now c.requires.is.2 }

pub returns : goal.returns
returns c =
    let q = c.args.self.now.wanted in
    let w = c.in-Some.field-0 in
    let is = popped q.items c.pop_front.new.self.items c.pop_front.result w c.pop_front.ensures.items c.in-Some.is in
    if_ok_then c.take.result _ _ c.take.ensures.taken
    (λ found t. record {
      first = w;
      bytes = c.into_bytes-bytes.result;
      came = c.into_bytes-bytes.ensures;
      wanted = is ∙ ap (λ (v : VecDeque Wanted Global). w ∷ v.items) (sym c.take.ensures.wanted);
      taken = retaken c.args.cap.now c.args.reading.now w.position c.into_bytes-bytes.result.items c.deref.result.now found c.args.self.now c.take.new.self c.pop_front.new.self c.deref.ensures.value t;
    })
