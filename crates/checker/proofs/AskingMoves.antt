-- How a check asks for more of a share that is read.
use Rattle.std.proofs.Common.{◌≡◌, ◌≢◌, ℕ, ◌+◌, ◌-◌, ◌<◌, List, [], length, max, set, Option, Some, None, ap, refl, sym, subst, ◌∙◌, arith, inr}
use Rattle.std.specs.Prelude.{IfNone, IfSome, slice_get}
use Rattle.std.proofs.lemmas.List.{length-append, length-set}
use Rattle.std.proofs.lemmas.Option.{slice_get_within}
use Rattle.request_record.specs.Record.{RequestsState}
use Rattle.share_reading.specs.declared.opening.Opening.TheVariants.{Start}
use Rattle.share_reading.specs.declared.reading.ShareReading.{ShareReading}
use Rattle.share_reading.specs.declared.reading.ShareReading.TheVariants.{Beginning}
use Rattle.checker.specs.Hearing.{IsHeard, StandsAt}
use Rattle.checker.specs.Book.{AreAwaited, AreAwaitedBut, AsksMore, AsksNothing, HasAsked, HasBook, IsAsking, IsAwaitedAt, IsAwaitingAt, IsBook, IsNextSpan, IsSafe, IsWithOffers}
use Rattle.checker.specs.Wanted.{IsAhead, length_ahead, offset_ahead}
use Rattle.checker.specs.declared.state.Machine.{Machine}
use Rattle.checker.specs.declared.offers.Offer.{Offer}
use Rattle.checker.specs.declared.offers.Stage.TheVariants.{Read}
use Rattle.checker.specs.declared.wanted.Span.{Span}
use Rattle.checker.specs.declared.wanted.Wanted.{Wanted}
use Rattle.checker.proofs.AheadLemmas.{first_ahead}
use Rattle.checker.proofs.Entries.{get_set_same}
use Rattle.checker.proofs.MachineMoves.{asking_more, asks_asked, asks_nothing, awaited_all, awaited_asked, awaited_but, awaited_set, book_as, book_begun, book_heard, book_more, may_ask, safe_asked, safe_same, waits_more}
use Rattle.checker.proofs.Keeping.{asks_none, asks_trans}

-- ---- the same machine but for its offers

pub book_with : (old new : Machine) (offers : List Offer) (begun : ℕ) (todo : List ℕ) → IsWithOffers old new offers begun
    → IsBook old.cap old.keeps old.requests.entries old.told.items old.owners.items offers begun todo → HasBook new todo
book_with old new offers begun todo w b =
    book_as old.cap new.cap old.keeps new.keeps old.requests.entries new.requests.entries old.told.items new.told.items old.owners.items new.owners.items offers new.offers.items begun new.begun todo
    w.cap w.keeps (ap (λ (r : RequestsState). r.entries) w.requests) w.told w.owners w.offers_are w.begun_is b

pub asks_with : (old new : Machine) (offers : List Offer) (begun : ℕ) → IsWithOffers old new offers begun → AsksNothing old new
asks_with old new offers begun w = record { cap = w.cap; keeps = w.keeps; requests = w.requests }

-- a call that asks more of it
pub asks_after : (old mid new : Machine) (offers : List Offer) (begun : ℕ) → IsWithOffers old mid offers begun → AsksMore mid new → AsksMore old new
asks_after old mid new offers begun w more = asks_trans old mid new (asks_nothing old mid (asks_with old mid offers begun w)) more

pub safe_with : (old new : Machine) (offers : List Offer) (begun : ℕ) → IsWithOffers old new offers begun → IsSafe old → IsSafe new
safe_with old new offers begun w safe = safe_same old new (asks_with old new offers begun w) safe

-- ---- the next piece to ask for

pub is_next_span : (x : Option Span) (r : ShareReading) (n : ℕ) (o : Offer) → n ≡ length o.wanted.items → IfSome x (λ _. IsAhead r n) → IfSome x (λ (s : Span). s.offset ≡ offset_ahead r n)
    → IfSome x (λ (s : Span). s.length ≡ length_ahead r n) → IfSome x (IsNextSpan r o)
is_next_span None r n o many ahead offset long = tt
is_next_span (Some s) r n o many ahead offset long = record {
  ahead = subst (IsAhead r) many ahead;
  offset = offset ∙ ap (offset_ahead r) many;
  long = long ∙ ap (length_ahead r) many;
}

-- one is, where none is asked for
pub some_span : (x : Option Span) (r : ShareReading) (n : ℕ) (o : Offer) → n ≡ length o.wanted.items → IfNone x (IsAhead r n → ⊥) → IfNone x (o.wanted.items ≢ [])
some_span None r n o many none = λ e. none (subst (IsAhead r) (sym (many ∙ ap length e)) (first_ahead r))
some_span (Some s) r n o many none = tt

pub fewer_span : (x : Option Span) (P : Type 0) → P → IfSome x (λ _. P)
fewer_span None P p = tt
fewer_span (Some s) P p = p

-- ---- more of one share is asked for

abbrev pub wanted_in : Option Offer → List Wanted
wanted_in None = []
wanted_in (Some o) = o.wanted.items

abbrev pub wanted_at : List Offer → ℕ → List Wanted
wanted_at offers k = wanted_in (slice_get offers k)

pub record IsAskingOn (old m : Machine) (k : ℕ) (r : ShareReading) : Type 0 where
  pub offer : Offer
  pub is : IsAsking m k r offer
  pub safe : IsSafe m
  pub asks : AsksMore old m
  pub some : (todo : List ℕ) × HasBook m todo
  pub book : (todo : List ℕ) → HasBook old todo → HasBook m todo
  pub awaited : AreAwaitedBut k old.offers.items → AreAwaitedBut k m.offers.items
  pub begun : m.begun ≡ old.begun
  pub long : length m.offers.items ≡ length old.offers.items

pub asking_first : (m : Machine) (k : ℕ) (r : ShareReading) (o : Offer) → IsSafe m → IsAsking m k r o → (todo : List ℕ) × HasBook m todo → IsAskingOn m m k r
asking_first m k r o safe is some = record {
  offer = o;
  is = is;
  safe = safe;
  asks = asks_none m;
  some = some;
  book = λ todo b. b;
  awaited = λ all. all;
  begun = refl;
  long = refl;
}

pub asking_within : (m : Machine) (k : ℕ) (r : ShareReading) (o : Offer) → IsAsking m k r o → k < length m.offers.items
asking_within m k r o is = slice_get_within m.offers.items k o is.there

module _ (old m new : Machine) (k : ℕ) (r : ShareReading) (on : IsAskingOn old m k r) (s : Span) (span : IsNextSpan r on.offer s) (a : HasAsked m k s on.offer new) where
  pub asking_next : IsAskingOn old new k r
  asking_next = record {
    offer = a.offer;
    is = asking_more m new k r on.offer s on.is a;
    safe = safe_asked m new k s on.offer on.safe (may_ask m on.some.0 k r on.offer s on.some.1 on.is span) a;
    asks = asks_trans old m new on.asks (asks_asked m new k s on.offer a);
    some = (on.some.0, book_more m new on.some.0 k r on.offer s on.some.1 on.is span a);
    book = λ todo b. book_more m new todo k r on.offer s (on.book todo b) on.is span a;
    awaited = λ all. subst (AreAwaitedBut k) (sym a.offers) (awaited_asked m.offers.items k on.offer a.offer on.is.there (waits_more m new k on.offer s a) (on.awaited all));
    begun = a.begun ∙ on.begun;
    long = ap length a.offers ∙ length-set m.offers.items k a.offer ∙ on.long;
  }

  pub asking_fewer : length on.offer.wanted.items < max 1 m.ahead → max 1 new.ahead - length (wanted_at new.offers.items k) < max 1 m.ahead - length (wanted_at m.offers.items k)
  asking_fewer fewer =
      let now : wanted_at new.offers.items k ≡ a.offer.wanted.items = ap wanted_in (ap (λ (l : List Offer). slice_get l k) a.offers ∙ get_set_same m.offers.items k on.offer a.offer on.is.there) in
      let was : wanted_at m.offers.items k ≡ on.offer.wanted.items = ap wanted_in on.is.there in
      let one : length a.offer.wanted.items ≡ length on.offer.wanted.items + 1 = ap length a.more.wanted ∙ length-append on.offer.wanted.items _ in
      omega (arith, ap length now, ap length was, one, a.ahead, fewer)

-- nothing more is asked now
pub asking_awaited : (old m : Machine) (k : ℕ) (r : ShareReading) (on : IsAskingOn old m k r) → on.offer.wanted.items ≢ [] → AreAwaitedBut k old.offers.items → AreAwaited m.offers.items
asking_awaited old m k r on some all = awaited_all m.offers.items k on.offer r on.is.there on.is.stage some (on.awaited all)

-- memory was refused
pub asking_refused : (old m new : Machine) (k : ℕ) (r : ShareReading) → IsAskingOn old m k r → AsksNothing m new → AsksMore old new
asking_refused old m new k r on same = asks_trans old m new on.asks (asks_nothing m new same)

-- ---- a share is begun

module _ (m mid : Machine) (o n : Offer) (b : HasBook m []) (at : slice_get m.offers.items m.begun ≡ Some o) (is : n ≡ record o { stage = Read (Beginning Start) })
    (w : IsWithOffers m mid (set m.offers.items m.begun n) (m.begun + 1)) where
  pub begins_book : HasBook mid []
  begins_book = book_with m mid (set m.offers.items m.begun n) (m.begun + 1) [] w (book_begun m o n b at is)

  pub begins_asking : IsAsking mid m.begun (Beginning Start) n
  begins_asking = record {
    there = ap (λ (l : List Offer). slice_get l m.begun) w.offers_are ∙ get_set_same m.offers.items m.begun o n at;
    stage = ap (λ (x : Offer). x.stage) is;
  }

  pub begins_awaited : o.wanted.items ≡ [] → AreAwaited m.offers.items → AreAwaitedBut m.begun mid.offers.items
  begins_awaited none all =
      subst (AreAwaitedBut m.begun) (sym w.offers_are) (awaited_but m.offers.items m.begun o n at (inr (ap (λ (x : Offer). x.wanted.items) is ∙ none)) all)

-- ---- what came for a piece is taken

module _ (m mid : Machine) (k : ℕ) (r : ShareReading) (piece position : ℕ) (bytes : Option (List ℕ)) (todo : List ℕ) (a : IsAwaitingAt m k r piece position bytes todo)
    (n : Offer) (next : Option ShareReading) (h : IsHeard m.cap a.offer r piece bytes n next) (w : IsWithOffers m mid (set m.offers.items k n) m.begun) where
  pub heard_book : HasBook mid todo
  heard_book = book_with m mid (set m.offers.items k n) m.begun todo w (book_heard m k r piece position bytes todo a n next h)

  heard_there : slice_get mid.offers.items k ≡ Some n
  heard_there = ap (λ (l : List Offer). slice_get l k) w.offers_are ∙ get_set_same m.offers.items k a.offer n a.is.there

  pub heard_asking : (s : ShareReading) → next ≡ Some s → IsAsking mid k s n
  heard_asking s e = record { there = heard_there; stage = (subst (StandsAt n) e h.stands).0 }

  pub heard_but : (s : ShareReading) → next ≡ Some s → AreAwaited m.offers.items → AreAwaitedBut k mid.offers.items
  heard_but s e all = subst (AreAwaitedBut k) (sym w.offers_are) (awaited_but m.offers.items k a.offer n a.is.there (subst (StandsAt n) e h.stands).1 all)

  pub heard_awaited : next ≡ None → AreAwaited m.offers.items → AreAwaited mid.offers.items
  heard_awaited e all =
      let ended = subst (StandsAt n) e h.stands in
      subst AreAwaited (sym w.offers_are) (awaited_set m.offers.items k a.offer n a.is.there (subst (IsAwaitedAt n) (sym ended.1) tt) all)
