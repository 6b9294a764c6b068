use Rattle.std.proofs.Common.{◌≡◌, ◌∙◌, ap, refl, set}
use Rattle.std.proofs.lemmas.Option.{get_or_from_slice_get}
use Rattle.checker.specs.declared.offers.Offer.{Offer}
use Rattle.checker.specs.declared.offers.Stage.TheVariants.{Read}
use Rattle.checker.proofs.state.Machine.begin_reading.Goals as goal

pub returns-clause-begins : goal.returns-clause-begins
returns-clause-begins c o at =
    let m = c.args.self.now in
    let same : c.index_mut.result.now ≡ o = c.index_mut.ensures.value ∙ get_or_from_slice_get m.offers.items m.begun o _ at in
    record {
      cap = refl;
      keeps = refl;
      requests = refl;
      told = refl;
      owners = refl;
      offers_are = ap (λ (x : Offer). set m.offers.items m.begun (record x { stage = Read c.args.reading.now })) same;
      begun_is = refl;
    }
