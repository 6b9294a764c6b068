use Rattle.std.proofs.Common.{◌≡◌, ◌∙◌, ℕ, ◌-◌, ◌<◌, ◌≤◌, List, ◌∷◌, length, Option, Some, slice_get, slice_index_or, ap, sym, refl, arith}
use Rattle.std.proofs.lemmas.Option.{get_or_from_slice_get, slice_get_read, slice_get_within}
use Rattle.share_reading.specs.declared.reading.ShareReading.{ShareReading}
use Rattle.checker.specs.Book.{HasBook, IsAwaitingAt, IsBrought, IsSettledAt}
use Rattle.checker.specs.declared.offers.Stage.TheVariants.{Read}
use Rattle.checker.specs.declared.wanted.Wanted.{Wanted}
use Rattle.checker.proofs.HearingLemmas.{text_of}
use Rattle.checker.specs.declared.state.Machine.{Machine}
use Rattle.checker.specs.declared.offers.Offer.{Offer}
use Rattle.checker.proofs.MachineMoves.{IsOwned, book_passed, owned_at}
use Rattle.checker.proofs.state.Machine.take_in.Goals as goal

-- the owner of a request, by what was read of the owners
owner_of : (m : Machine) (todo : List ℕ) (position len k : ℕ) → HasBook m (position ∷ todo) → len ≡ length m.told.items → len ≤ position
    → (position - len < length m.owners.items → k ≡ slice_index_or m.owners.items (position - len) k) → (o : Offer) × IsOwned m position k o
owner_of m todo position len k b is low at =
    let within : position - len < length m.owners.items = omega (arith, b.inside position (0, omega arith, refl), b.long, is, low) in
    owned_at m (position ∷ todo) position (position - len) k b (omega (arith, is, low)) (ap (λ n. position - n) is)
    (slice_get_read m.owners.items (length m.owners.items) (position - len) k refl within (at within))

pub index-offer-requires : goal.index-offer-requires
index-offer-requires c =
    let m = c.args.self.now in
    omega (arith, c.requires.book.1.inside c.args.position (0, omega arith, refl), c.requires.book.1.long, c.if-position-len.false, c.len.ensures, c.len-2.ensures, m.told.ok.0, m.owners.ok.0)

pub index-requires : goal.index-requires
index-requires c =
    let m = c.args.self.now in
    let owner = owner_of m c.requires.book.0 c.args.position c.len-2.result c.index-offer.result.now c.requires.book.1 (c.len-2.ensures ∙ m.told.ok.0) (omega (arith, c.if-position-len.false, c.len.ensures, c.len-2.ensures)) (λ _. c.index-offer.ensures) in
    omega (arith, slice_get_within m.offers.items c.index-offer.result.now owner.0 owner.1.there, m.offers.ok.0)

-- the share waits for this piece
awaits : (m : Machine) (todo : List ℕ) (position k : ℕ) (bytes : Option (List ℕ)) (o x : Offer) (r : ShareReading) (piece : ℕ) → IsSettledAt m.requests.entries position → IsBrought m.requests.entries position bytes
    → HasBook m (position ∷ todo) → length m.told.items ≤ position → IsOwned m position k o → x ≡ o → x.stage ≡ Read r
    → (w : Wanted) × (slice_get x.wanted.items piece ≡ Some w) × (w.position ≡ position) → IsAwaitingAt m k r piece position bytes todo
awaits m todo position k bytes o x r piece settled brought b low owned is stage w = record {
  offer = o;
  is = record { there = owned.there; stage = ap (λ (y : Offer). y.stage) (sym is) ∙ stage };
  wanted = w.0;
  there = ap (λ (y : Offer). slice_get y.wanted.items piece) (sym is) ∙ w.1;
  at = w.2;
  behind = low;
  settled = settled;
  brought = brought;
  book = b;
}

pub take_answer-requires-clause-waits : goal.take_answer-requires-clause-waits
take_answer-requires-clause-waits c =
    let m = c.args.self.now in
    let k = c.index-offer.result.now in
    let todo = c.requires.book.0 in
    let low : c.len-2.result ≤ c.args.position = omega (arith, c.if-position-len.false, c.len.ensures, c.len-2.ensures) in
    let owner = owner_of m todo c.args.position c.len-2.result k c.requires.book.1 (c.len-2.ensures ∙ m.told.ok.0) low (λ _. c.index-offer.ensures) in
    let is = c.index.ensures ∙ get_or_from_slice_get m.offers.items k owner.0 _ owner.1.there in (
      c.args.position,
      todo,
      awaits m todo c.args.position k (text_of c.args.bytes) owner.0 c.index.result.now _ _ c.requires.settled c.requires.brought c.requires.book.1 (omega (arith, low, c.len-2.ensures, m.told.ok.0)) owner.1 is
          c.in-Some.ensures.reading c.in-Some.ensures.piece,
    )

pub returns-in-Some-clause-book : goal.returns-in-Some-clause-book
returns-in-Some-clause-book c todo b once =
    let m = c.args.self.now in
    let k = c.index-offer.result.now in
    let low : c.len-2.result ≤ c.args.position = omega (arith, c.if-position-len.false, c.len.ensures, c.len-2.ensures) in
    let owner = owner_of m todo c.args.position c.len-2.result k b (c.len-2.ensures ∙ m.told.ok.0) low (λ _. c.index-offer.ensures) in
    let is = c.index.ensures ∙ get_or_from_slice_get m.offers.items k owner.0 _ owner.1.there in
    c.take_answer.ensures.book c.args.position todo
    (awaits m todo c.args.position k (text_of c.args.bytes) owner.0 c.index.result.now _ _ c.requires.settled c.requires.brought b (omega (arith, low, c.len-2.ensures, m.told.ok.0)) owner.1 is
    c.in-Some.ensures.reading c.in-Some.ensures.piece)

pub returns-in-None-clause-book : goal.returns-in-None-clause-book
returns-in-None-clause-book c todo b once =
    let m = c.args.self.now in
    let k = c.index-offer.result.now in
    let low : c.len-2.result ≤ c.args.position = omega (arith, c.if-position-len.false, c.len.ensures, c.len-2.ensures) in
    let owner = owner_of m todo c.args.position c.len-2.result k b (c.len-2.ensures ∙ m.told.ok.0) low (λ _. c.index-offer.ensures) in
    let is = c.index.ensures ∙ get_or_from_slice_get m.offers.items k owner.0 _ owner.1.there in
    book_passed m c.args.position todo k owner.0 b (omega (arith, low, c.len-2.ensures, m.told.ok.0)) owner.1
    (λ r i w stage e at. c.in-None.ensures.none r i w (ap (λ (x : Offer). x.stage) is ∙ stage) (ap (λ (x : Offer). slice_get x.wanted.items i) is ∙ e) at)
