use Rattle.std.proofs.Common.{◌≡◌, ◌∙◌, Some, slice_get, refl, arith}
use Rattle.lemmas.proofs.Positions.{get_of}
use Rattle.request_record.proofs.EntrySteps.{holdings_kept}
use Rattle.request_record.specs.declared.requests.Request.{Request}
use Rattle.checker.proofs.ToldMoves.{awaited_pushed, told_pushed}
use Rattle.checker.proofs.state.Machine.take_holdings.Goals as goal

-- It asks which shares a server holds, so it is in memory.
pub request-request-requires : goal.request-request-requires
request-request-requires c =
    let es = c.args.self.now.requests.entries in
    let one : (x : Request) × (slice_get es c.args.position ≡ Some x) = get_of es c.args.position (c.requires.book.1.inside c.args.position (0, omega arith, refl)) in
    holdings_kept es c.args.position one.0 one.1 (c.requires.book.1.asks c.args.position one.0 c.requires.asks one.1)

pub returns : goal.returns
returns c =
    let m = c.args.self.now in
    let es = m.requests.entries in
    let q = c.request-request.result.now in
    let there = c.request-request.ensures in
    record {
      book = λ todo b once.
          told_pushed m.cap m.keeps es m.told.items m.owners.items m.offers.items c.push_offers.new.offers.items m.begun c.args.position todo q c.held_by-held.result.now c.total.result _
          b c.requires.safe.once c.requires.asks there c.in_ok-push_offers.ensures c.total.ensures.value c.held_by-held.ensures.held c.held_by-held.ensures.offered
          (c.len-first.ensures ∙ m.offers.ok.0) (omega (arith, c.len.ensures, c.len-first.ensures, m.offers.ok.0, c.push_offers.new.offers.ok.0)) once;
      awaited = awaited_pushed m.keeps c.total.result q.server c.held_by-held.result.now m.offers.items c.push_offers.new.offers.items c.in_ok-push_offers.ensures;
      same = record { cap = refl; keeps = refl; requests = refl };
    }
