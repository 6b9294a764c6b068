use Rattle.std.proofs.Common.{◌∙◌, [], length, ap, subst, sym}
use Rattle.std.proofs.lemmas.List.{length-set}
use Rattle.lemmas.proofs.Positions.{get_of}
use Rattle.lemmas.proofs.Results.{on_ok_then}
use Rattle.share_reading.specs.declared.reading.ShareReading.{ShareReading}
use Rattle.checker.specs.Book.{AreAwaitedBut, IsAsking}
use Rattle.checker.specs.declared.offers.Offer.{Offer}
use Rattle.checker.specs.declared.offers.Stage.TheVariants.{Read}
use Rattle.checker.proofs.AskingMoves.{asks_after, begins_asking, begins_awaited, begins_book, safe_with}
use Rattle.checker.proofs.MachineMoves.{unread_at}
use Rattle.checker.proofs.state.Machine.begin_next.Goals as goal

pub ask_on-requires-clause-safe : goal.ask_on-requires-clause-safe
ask_on-requires-clause-safe c =
    let m = c.args.self.now in
    let o = get_of m.offers.items m.begun c.requires.more in
    let w = c.begin_reading-offer.ensures.begins o.0 o.1 in
    safe_with m c.begin_reading-offer.new.self _ _ w c.requires.safe

pub ask_on-requires-clause-there : goal.ask_on-requires-clause-there
ask_on-requires-clause-there c =
    let m = c.args.self.now in
    let mid = c.begin_reading-offer.new.self in
    let o = get_of m.offers.items m.begun c.requires.more in
    let w = c.begin_reading-offer.ensures.begins o.0 o.1 in
    let r = c.start-reading.result in
    let n : Offer = record o.0 { stage = Read r } in
    let is = ap (λ (x : ShareReading). record o.0 { stage = Read x }) c.start-reading.ensures in (
      n,
      subst (λ k. IsAsking mid k r n) (sym c.begin_reading-offer.ensures.position)
          (subst (λ (x : ShareReading). IsAsking mid m.begun x n) (sym c.start-reading.ensures) (begins_asking m mid o.0 n c.requires.book o.1 is w)),
    )

pub ask_on-requires-clause-book : goal.ask_on-requires-clause-book
ask_on-requires-clause-book c =
    let m = c.args.self.now in
    let mid = c.begin_reading-offer.new.self in
    let o = get_of m.offers.items m.begun c.requires.more in
    let w = c.begin_reading-offer.ensures.begins o.0 o.1 in
    let is = ap (λ (x : ShareReading). record o.0 { stage = Read x }) c.start-reading.ensures in
    ([], begins_book m mid o.0 (record o.0 { stage = Read c.start-reading.result }) c.requires.book o.1 is w)

pub returns-clause-book : goal.returns-clause-book
returns-clause-book c =
    let m = c.args.self.now in
    let mid = c.begin_reading-offer.new.self in
    let o = get_of m.offers.items m.begun c.requires.more in
    let w = c.begin_reading-offer.ensures.begins o.0 o.1 in
    let is = ap (λ (x : ShareReading). record o.0 { stage = Read x }) c.start-reading.ensures in
    c.ask_on.ensures.book [] (begins_book m mid o.0 (record o.0 { stage = Read c.start-reading.result }) c.requires.book o.1 is w)

pub returns-clause-awaited : goal.returns-clause-awaited
returns-clause-awaited c all =
    let m = c.args.self.now in
    let mid = c.begin_reading-offer.new.self in
    let o = get_of m.offers.items m.begun c.requires.more in
    let w = c.begin_reading-offer.ensures.begins o.0 o.1 in
    let is = ap (λ (x : ShareReading). record o.0 { stage = Read x }) c.start-reading.ensures in
    c.ask_on.ensures.awaited
    (subst (λ k. AreAwaitedBut k mid.offers.items) (sym c.begin_reading-offer.ensures.position)
    (begins_awaited m mid o.0 (record o.0 { stage = Read c.start-reading.result }) c.requires.book o.1 is w (unread_at m o.0 c.requires.book o.1).wanted all))

pub returns-clause-asks : goal.returns-clause-asks
returns-clause-asks c =
    let m = c.args.self.now in
    let o = get_of m.offers.items m.begun c.requires.more in
    let w = c.begin_reading-offer.ensures.begins o.0 o.1 in
    asks_after m c.begin_reading-offer.new.self c.ask_on.new.self _ _ w c.ask_on.ensures.asks

pub returns-clause-less : goal.returns-clause-less
returns-clause-less c =
    let m = c.args.self.now in
    let o = get_of m.offers.items m.begun c.requires.more in
    let w = c.begin_reading-offer.ensures.begins o.0 o.1 in
    on_ok_then c.ask_on.result _ _ c.ask_on.ensures.same (λ s. (s.0 ∙ w.begun_is, s.1 ∙ ap length w.offers_are ∙ length-set m.offers.items m.begun _))
