-- What is kept of each check, as it goes on.
use Rattle.std.proofs.Common.{◌≡◌, ◌≢◌, ℕ, zero, suc, ◌+◌, ◌<◌, ◌≤◌, List, [], ◌∷◌, ◌++◌, length, get_or, drop, map, replicate, eqb, append_assoc, true≢false, Bool, true, false, cond, inl, inr, Some, Result, Ok, Err, ap, refl, sym, subst, ◌∙◌, arith}
use Rattle.std.specs.Prelude.{Contains, slice_get}
use Rattle.std.specs.Result.{OnErr}
use Rattle.std.specs.List.{AllByRecursion, IsDistinct}
use Rattle.std.proofs.lemmas.List.Sums.{sum_by-cons}
use Rattle.std.proofs.Common.{drop-cons}
use Rattle.std.proofs.lemmas.List.{append-nil, drop_all, length-map, length-replicate}
use Rattle.std.proofs.lemmas.List.Elements.{All-append, All-nil, Contains-get_or}
use Rattle.std.proofs.lemmas.Option.{none-some, same_Some}
use Rattle.std.proofs.lemmas.Bool.{eq-eqb}
use Rattle.lemmas.proofs.Members.{contains_head, contains_none}
use Rattle.request_record.proofs.StepLaws.{asked_joined}
use Rattle.lemmas.proofs.Positions.{get_of}
use Rattle.cap_text.specs.Cap.{VerifyCapValue}
use Rattle.request_record.specs.declared.requests.Asked.{Asked}
use Rattle.request_record.specs.declared.requests.Asked.TheVariants.{Holdings, Allocation, Writing, Closing, Reading, Aborting}
use Rattle.request_record.specs.declared.requests.Outcome.TheVariants.{Lost}
use Rattle.request_record.specs.declared.requests.Request.{Request}
use Rattle.request_record.specs.Record.{IsRecord, RequestsState, asked_all, asked_more, first_request, is_outstanding, outstanding_count}
use Rattle.request_record.specs.Asking.{AsksOnce, asks_of, begun, fresh}
use Rattle.checker.specs.Moves.{GoesOn, Stops, is_read}
use Rattle.checker.specs.Right.{AreOfShares, IsRight, MayAsk}
use Rattle.checker.specs.Book.{AllAskOrRead, AreAwaited, AreKeys, AreLost, AsksItsOwn, AsksMore, AsksOrReads, HasBook, IsBook, IsFresh, IsKept, IsSafe, state_of}
use Rattle.checker.specs.Shares.{offered_in}
use Rattle.checker.specs.declared.state.Machine.{Machine}
use Rattle.checker.specs.declared.offers.Offer.{Offer}
use Rattle.checker.specs.declared.state.Told.{Told}
use Rattle.checker.proofs.Entries.{GoesTo, get_kept, was_at}
use Rattle.checker.proofs.BookMoves.{book_goes}
use Rattle.checker.proofs.RecordMoves.{IsCounted, IsTicked, may_more, offered_goes, shares_go}
use Rattle.checker.proofs.MachineMoves.{book_as}
use Rattle.checker.proofs.ToldMoves.{not_read}
use Rattle.checker.specs.declared.status.CheckStatus.{CheckStatus}
use Rattle.checker.specs.declared.status.CheckStatus.TheVariants.{Running, Done, Failed}

-- ---- the same requests

abbrev with_requests : Machine → RequestsState → Machine
with_requests m r = record m { requests = r }

pub kept_same : (m : Machine) (r : RequestsState) (status : CheckStatus) → r.entries ≡ m.requests.entries → IsKept m status → IsKept (with_requests m r) status
kept_same m r status same k = record {
  safe = record {
    once = subst AsksOnce (sym same) k.safe.once;
    reads = subst (AreOfShares m.cap) (sym same) k.safe.reads;
    asked = subst (AllAskOrRead m.cap) (sym same) k.safe.asked;
  };
  book = λ ok. subst (λ (l : List Request). IsBook m.cap m.keeps l m.told.items m.owners.items m.offers.items m.begun []) (sym same) (k.book ok);
  awaited = k.awaited;
  works = λ e. subst (λ (l : List Request). 0 < outstanding_count l) (sym same) (k.works e);
  idle = λ e. ap outstanding_count same ∙ k.idle e;
  begun = k.begun;
}

-- ---- more is asked

abbrev IsReadAsk : ℕ × Asked → Type 0
IsReadAsk ask = is_read ask.1 ≡ true

pub asks_none : (m : Machine) → AsksMore m m
asks_none m = record { cap = refl; keeps = refl; asks = []; reads = All-nil IsReadAsk; requests = refl }

pub asks_trans : (a b c : Machine) → AsksMore a b → AsksMore b c → AsksMore a c
asks_trans a b c one two = record {
  cap = two.cap ∙ one.cap;
  keeps = two.keeps ∙ one.keeps;
  asks = one.asks ++ two.asks;
  reads = All-append IsReadAsk one.asks two.asks one.reads two.reads;
  requests = two.requests ∙ ap (asked_all two.asks) one.requests ∙ sym (asked_joined one.asks two.asks a.requests);
}

stays_asked : (asks : List (ℕ × Asked)) (r : RequestsState) (i : ℕ) (x : Request) → slice_get r.entries i ≡ Some x → slice_get (asked_all asks r).entries i ≡ Some x
stays_asked [] r i x e = e
stays_asked (ask ∷ asks) r i x e = stays_asked asks (asked_more ask.0 ask.1 r) i x (get_kept r.entries (first_request ask.0 ask.1 r.clock) x i e)

pub asks_stay : (a b : Machine) → AsksMore a b → (i : ℕ) (x : Request) → slice_get a.requests.entries i ≡ Some x → slice_get b.requests.entries i ≡ Some x
asks_stay a b more i x e = ap (λ (r : RequestsState). slice_get r.entries i) more.requests ∙ stays_asked more.asks a.requests i x e

-- ---- requests that found no answer

pub record IsLosing (old m : Machine) (positions todo : List ℕ) : Type 0 where
  pub book : HasBook m todo
  pub safe : IsSafe m
  pub asks : AsksMore old m
  pub awaited : AreAwaited old.offers.items → AreAwaited m.offers.items
  pub there : (i : ℕ) → Contains positions i → (r : Request) × (slice_get m.requests.entries i ≡ Some r) × (r.outcome ≡ Lost)

pub losing_none : (m : Machine) (positions : List ℕ) → HasBook m positions → AreLost m.requests.entries positions → IsSafe m → IsLosing m m positions positions
losing_none m positions b lost safe = record {
  book = b;
  safe = safe;
  asks = asks_none m;
  awaited = λ all. all;
  there = λ i h. let found = get_of m.requests.entries i (b.inside i h) in (found.0, found.1, lost i found.0 h found.1);
}

-- the request at a position is lost
pub losing_settled : (old m : Machine) (positions : List ℕ) (i : ℕ) → IsLosing old m positions (drop i positions) → i < length positions → (r : Request) → slice_get m.requests.entries (get_or positions i 0) ≡ Some r → r.outcome ≡ Lost
losing_settled old m positions i l lt r e =
    let found = l.there (get_or positions i 0) (Contains-get_or positions i 0 lt) in
    ap (λ (x : Request). x.outcome) (same_Some r found.0 (sym e ∙ found.1)) ∙ found.2

pub losing_first : (old m : Machine) (positions : List ℕ) (i : ℕ) → IsLosing old m positions (drop i positions) → i < length positions → HasBook m (get_or positions i 0 ∷ drop (i + 1) positions)
losing_first old m positions i l lt = subst (HasBook m) (drop-cons positions i 0 lt ∙ ap (λ n. get_or positions i 0 ∷ drop n positions) (next i)) l.book
  where
    next : (n : ℕ) → suc n ≡ n + 1
    next n = omega arith

pub losing_more : (old m new : Machine) (positions : List ℕ) (i : ℕ) → IsLosing old m positions (drop i positions) → i < length positions
    → HasBook new (drop (i + 1) positions) → (AreAwaited m.offers.items → AreAwaited new.offers.items) → AsksMore m new → IsSafe new → IsLosing old new positions (drop (i + 1) positions)
losing_more old m new positions i l lt b awaited more safe = record {
  book = b;
  safe = safe;
  asks = asks_trans old m new l.asks more;
  awaited = λ all. awaited (l.awaited all);
  there = λ j h. let found = l.there j h in (found.0, asks_stay m new more j found.0 found.1, found.2);
}

pub losing_all : (old m : Machine) (positions : List ℕ) (i : ℕ) → IsLosing old m positions (drop i positions) → length positions ≤ i → HasBook m []
losing_all old m positions i l le = subst (HasBook m) (drop_all i positions le) l.book

-- ---- more shares are begun

pub record IsSettling (old m : Machine) : Type 0 where
  pub book : HasBook m []
  pub awaited : AreAwaited m.offers.items
  pub safe : IsSafe m
  pub asks : AsksMore old m

-- ---- how many requests wait

abbrev waits_in : Request → ℕ
waits_in r = cond (is_outstanding r.outcome) 1 0

waits_one : (r : Request) → is_outstanding r.outcome ≡ true → waits_in r ≡ 1
waits_one r e = rw e refl

waits_none : (r : Request) → is_outstanding r.outcome ≡ false → waits_in r ≡ 0
waits_none r e = rw e refl

pub none_waits : (es : List Request) (i : ℕ) (r : Request) → outstanding_count es ≡ 0 → slice_get es i ≡ Some r → is_outstanding r.outcome ≡ true → ⊥
none_waits [] i r none e waits = absurd cc
none_waits (x ∷ xs) zero r none e waits =
    omega (arith, none, sum_by-cons waits_in x xs, waits_one x (ap (λ (y : Request). is_outstanding y.outcome) (same_Some x r e) ∙ waits))
none_waits (x ∷ xs) (suc i) r none e waits = none_waits xs i r (omega (arith, none, sum_by-cons waits_in x xs)) e waits

all_settled : (es : List Request) → ((i : ℕ) (r : Request) → slice_get es i ≡ Some r → is_outstanding r.outcome ≡ false) → outstanding_count es ≡ 0
all_settled [] quiet = refl
all_settled (x ∷ xs) quiet =
    omega (arith, sum_by-cons waits_in x xs, waits_none x (quiet zero x refl), all_settled xs (λ i r e. quiet (suc i) r e))

settled_quiet : (es : List Request) (i : ℕ) (r : Request) → outstanding_count es ≡ 0 → slice_get es i ≡ Some r → is_outstanding r.outcome ≡ false
settled_quiet es i r none e = by (is_outstanding r.outcome) refl
  where
    by : (b : Bool) → is_outstanding r.outcome ≡ b → b ≡ false
    by true f = absurd (none_waits es i r none e f)
    by false f = refl

-- ---- the record goes on

pub goes_same : (es ns : List Request) → ns ≡ es → GoesTo es ns []
goes_same es ns same = subst (λ (l : List Request). GoesTo es l []) (sym same) (record {
  long = refl;
  each = λ i r e. record { request = r; there = e; server = refl; asked = refl; still = λ _. refl; waits = inl refl };
})

pub safe_goes : (m : Machine) (r : RequestsState) (todo : List ℕ) → GoesTo m.requests.entries r.entries todo → AsksOnce r.entries → IsSafe m → IsSafe (with_requests m r)
safe_goes m r todo goes once safe = record {
  once = once;
  reads = shares_go m.cap m.requests.entries r.entries todo goes safe.reads;
  asked = λ i n e. (
      let was = was_at m.requests.entries r.entries todo goes i n e in
      subst (λ s. AsksOrReads m.cap r.entries s n.asked) (sym was.server)
      (subst (AsksOrReads m.cap r.entries was.request.server) (sym was.asked)
      (may_more m.cap m.requests.entries r.entries (offered_goes m.cap.total m.requests.entries r.entries todo goes) was.request.server was.request.asked
      (safe.asked i was.request was.there))));
}

pub book_counted : (m : Machine) (r : RequestsState) (position : ℕ) → IsCounted m.requests.entries r.entries position → HasBook m [] → HasBook (with_requests m r) (position ∷ [])
book_counted m r position c b =
    book_goes m.cap m.keeps m.requests.entries r.entries m.told.items m.owners.items m.offers.items m.begun (position ∷ []) c.goes c.waited c.quiet c.inside b

pub book_ticked : (m : Machine) (r : RequestsState) (lost : List ℕ) → IsTicked m.requests.entries r.entries lost → HasBook m [] → HasBook (with_requests m r) lost
book_ticked m r lost t b =
    book_goes m.cap m.keeps m.requests.entries r.entries m.told.items m.owners.items m.offers.items m.begun lost t.goes t.waited (λ i q h e. ap is_outstanding (t.quiet i q h e)) t.inside b

failed_kept : (m : Machine) → IsSafe m → IsKept m Failed
failed_kept m safe = record { safe = safe; book = λ no. absurd (no refl); awaited = λ no. absurd (no refl); works = λ e. absurd cc; idle = λ e. absurd cc; begun = λ e. absurd cc }

pub kept_failed : (m : Machine) (status : CheckStatus) → IsKept m status → IsKept m Failed
kept_failed m status k = failed_kept m k.safe

-- the check is done or failed, and an answer counts: it failed, since nothing waited otherwise
pub kept_counted : (m : Machine) (r : RequestsState) (position : ℕ) (status : CheckStatus) → status ≢ Running → IsCounted m.requests.entries r.entries position → AsksOnce r.entries → IsKept m status → IsKept (with_requests m r) status
kept_counted m r position Running ended c once k = absurd (ended refl)
kept_counted m r position Done ended c once k =
    let old = get_of m.requests.entries position (omega (arith, c.inside position (contains_head position []), c.goes.long)) in
    absurd (none_waits m.requests.entries position old.0 (k.idle refl) old.1 (c.waited position old.0 (contains_head position []) old.1))
kept_counted m r position Failed ended c once k = failed_kept (with_requests m r) (safe_goes m r (position ∷ []) c.goes once k.safe)

no_lost : (es ns : List Request) (lost : List ℕ) → outstanding_count es ≡ 0 → IsTicked es ns lost → lost ≡ []
no_lost es ns [] none t = refl
no_lost es ns (x ∷ xs) none t =
    let old = get_of es x (omega (arith, t.inside x (contains_head x xs), t.goes.long)) in
    absurd (none_waits es x old.0 none old.1 (t.waited x old.0 (contains_head x xs) old.1))

pub kept_ticked : (m : Machine) (r : RequestsState) (lost : List ℕ) (status : CheckStatus) → status ≢ Running → IsTicked m.requests.entries r.entries lost → AsksOnce r.entries → IsKept m status → IsKept (with_requests m r) status
kept_ticked m r lost Running ended t once k = absurd (ended refl)
kept_ticked m r lost Done ended t once k = record {
  safe = safe_goes m r lost t.goes once k.safe;
  book = λ ok. subst (HasBook (with_requests m r)) (no_lost m.requests.entries r.entries lost (k.idle refl) t) (book_ticked m r lost t (k.book ok));
  awaited = k.awaited;
  works = λ e. absurd cc;
  idle = λ e. all_settled r.entries (λ i q there. (
      let was = was_at m.requests.entries r.entries lost t.goes i q there in
      let quiet = settled_quiet m.requests.entries i was.request (k.idle refl) was.there in
      ap (λ (x : Request). is_outstanding x.outcome) (was.still quiet) ∙ quiet));
  begun = k.begun;
}
kept_ticked m r lost Failed ended t once k = failed_kept (with_requests m r) (safe_goes m r lost t.goes once k.safe)

-- ---- what the calls do

pub goes_on_ended : (m : Machine) (r : RequestsState) (servers : List ℕ) (status : CheckStatus) → GoesOn r (state_of m servers status) (state_of (with_requests m r) servers status)
goes_on_ended m r servers status = record { cap = refl; servers = refl; keeps = refl; asks = []; reads = All-nil IsReadAsk; requests = refl; ended = λ _. refl; fails = λ ok. ok }

pub goes_on_running : (m new : Machine) (r : RequestsState) (servers : List ℕ) (status ended : CheckStatus) → status ≡ Running → ended ≢ Failed → AsksMore (with_requests m r) new → GoesOn r (state_of m servers status) (state_of new servers ended)
goes_on_running m new r servers status ended runs stands more = record {
  cap = more.cap;
  servers = refl;
  keeps = more.keeps;
  asks = more.asks;
  reads = more.reads;
  requests = more.requests;
  ended = λ no. absurd (no runs);
  fails = λ _. stands;
}

pub stops_with : (m new : Machine) (r : RequestsState) (servers : List ℕ) (status : CheckStatus) → AsksMore (with_requests m r) new → Stops r (state_of m servers status) (state_of new servers Failed)
stops_with m new r servers status more = record { cap = more.cap; servers = refl; keeps = more.keeps; asks = more.asks; reads = more.reads; requests = more.requests }

-- whatever a call gives
pub on_err_all : {A E : Type 0} (r : Result A E) (R : Type 0) → R → OnErr r R
on_err_all (Ok a) R it = tt
on_err_all (Err e) R it = it

-- ---- a check begins

asks_begun : (servers : List ℕ) (r : RequestsState) → (asked_all (asks_of servers) r).entries ≡ r.entries ++ map (λ s. first_request s Holdings r.clock) servers
asks_begun [] r = sym (append-nil r.entries)
asks_begun (s ∷ ss) r = asks_begun ss (asked_more s Holdings r) ∙ append_assoc r.entries (first_request s Holdings r.clock ∷ []) (map (λ x. first_request x Holdings r.clock) ss)

pub begun_entries : (servers : List ℕ) (session now : ℕ) → (begun servers session now).entries ≡ map (λ s. first_request s Holdings now) servers
begun_entries servers session now = asks_begun servers (fresh session now)

pub record IsBegunAt (servers : List ℕ) (now i : ℕ) (r : Request) : Type 0 where
  pub server : ℕ
  pub there : slice_get servers i ≡ Some server
  pub is : r ≡ first_request server Holdings now

pub begun_at : (servers : List ℕ) (now i : ℕ) (r : Request) → slice_get (map (λ s. first_request s Holdings now) servers) i ≡ Some r → IsBegunAt servers now i r
begun_at [] now i r e = absurd cc
begun_at (s ∷ ss) now zero r e = record { server = s; there = refl; is = sym (same_Some (first_request s Holdings now) r e) }
begun_at (s ∷ ss) now (suc i) r e = let found = begun_at ss now i r e in record { server = found.server; there = found.there; is = found.is }

all_at : (P : ℕ → Type 0) (xs : List ℕ) (i x : ℕ) → AllByRecursion P xs → slice_get xs i ≡ Some x → P x
all_at P [] i x all e = absurd cc
all_at P (y ∷ ys) zero x all e = subst P (same_Some y x e) all.0
all_at P (y ∷ ys) (suc i) x all e = all_at P ys i x all.1 e

distinct_at : (ss : List ℕ) (i j x : ℕ) → IsDistinct eqb ss → i < j → slice_get ss i ≡ Some x → slice_get ss j ≡ Some x → ⊥
unfolding IsDistinct
distinct_at [] i j x d lt e f = absurd cc
distinct_at (s ∷ ss) zero zero x d lt e f = absurd (omega (arith, lt))
distinct_at (s ∷ ss) zero (suc j) x d lt e f =
    let other : eqb s x ≡ false = all_at (λ y. eqb s y ≡ false) ss j x d.0 f in
    true≢false (sym (eq-eqb s x (same_Some s x e)) ∙ other)
distinct_at (s ∷ ss) (suc i) zero x d lt e f = absurd (omega (arith, lt))
distinct_at (s ∷ ss) (suc i) (suc j) x d lt e f = distinct_at ss i j x d.1 (omega (arith, lt)) e f

begun_once : (servers : List ℕ) (now : ℕ) → IsDistinct eqb servers → AsksOnce (map (λ s. first_request s Holdings now) servers)
begun_once servers now distinct i j a b lt e f same =
    let x = begun_at servers now i a e in
    let y = begun_at servers now j b f in
    let servers_same : x.server ≡ y.server = ap (λ (r : Request). r.server) (sym x.is) ∙ same ∙ ap (λ (r : Request). r.server) y.is in
    absurd (distinct_at servers i j x.server distinct lt x.there (y.there ∙ ap Some (sym servers_same)))

get_replicate : {X : Type 0} (n i : ℕ) (x y : X) → slice_get (replicate n x) i ≡ Some y → y ≡ x
get_replicate zero i x y e = absurd cc
get_replicate (suc n) zero x y e = sym (same_Some x y e)
get_replicate (suc n) (suc i) x y e = get_replicate n i x y e

module _ (cap : VerifyCapValue) (servers : List ℕ) (session now : ℕ) (keeps : Bool) (m : Machine) (is : IsFresh cap servers session now keeps m) (distinct : IsDistinct eqb servers) where
  abbrev asked_first : List Request
  asked_first = map (λ s. first_request s Holdings now) servers

  entries_are : m.requests.entries ≡ asked_first
  entries_are = ap (λ (r : RequestsState). r.entries) is.requests ∙ begun_entries servers session now

  all_holdings : (i : ℕ) (r : Request) → slice_get asked_first i ≡ Some r → r.asked ≡ Holdings
  all_holdings i r e = ap (λ (x : Request). x.asked) (begun_at servers now i r e).is

  fresh_safe : IsSafe m
  fresh_safe = record {
    once = subst AsksOnce (sym entries_are) (begun_once servers now distinct);
    reads = subst (AreOfShares m.cap) (sym entries_are) (λ i r share offset len e asked. absurd (not_read (all_holdings i r e) asked));
    asked = subst (AllAskOrRead m.cap) (sym entries_are) (λ i r e. subst (AsksOrReads m.cap asked_first r.server) (sym (all_holdings i r e)) tt);
  }

  abbrev told_first : List Told
  told_first = replicate (length servers) (record { first = 0; count = 0 })

  fresh_book : HasBook m []
  fresh_book =
      book_as cap m.cap keeps m.keeps asked_first m.requests.entries told_first m.told.items [] m.owners.items [] m.offers.items 0 m.begun [] is.of_cap is.of_keeps entries_are is.told is.owners is.offers is.begun_none
      (record {
        asks = λ i r lt e. all_holdings i r e;
        long = omega (arith, length-map servers (λ s. first_request s Holdings now), length-replicate {A = Told} (length servers) (record { first = 0; count = 0 }));
        owned = λ p k e. absurd (none-some k e);
        apart = λ k l a b e f same. absurd (none-some a e);
        reading = λ k o e. absurd (none-some o e);
        alike = λ k o e. absurd (none-some o e);
        offered = λ k o e. absurd (none-some o e);
        tells = λ i t r e f. inr (told_none t r (get_replicate (length servers) i (record { first = 0; count = 0 }) t e) (begun_at servers now i r f));
        quiet = λ i r h e. absurd (contains_none i h);
        inside = λ i h. absurd (contains_none i h);
        started = λ k o e lt. absurd (none-some o e);
        unread = λ k o e le. absurd (none-some o e);
        few = omega arith;
      })
    where
      told_none : {i : ℕ} (t : Told) (r : Request) → t ≡ record { first = 0; count = 0 } → IsBegunAt servers now i r → AreKeys [] t (offered_in cap.total r.server r.outcome)
      told_none t r e at =
          subst (λ (x : Told). AreKeys [] x (offered_in cap.total r.server r.outcome)) (sym e)
          (subst (λ (x : Request). AreKeys [] (record { first = 0; count = 0 }) (offered_in cap.total x.server x.outcome)) (sym at.is) (omega arith, refl))

  works_first : (ss : List ℕ) → ss ≢ [] → 0 < outstanding_count (map (λ s. first_request s Holdings now) ss)
  works_first [] some = absurd (some refl)
  works_first (s ∷ ss) some = omega (arith, sum_by-cons waits_in (first_request s Holdings now) (map (λ x. first_request x Holdings now) ss))

  pub fresh_kept : (status : CheckStatus) → (servers ≢ [] → status ≡ Running) → (servers ≡ [] → status ≡ Done) → IsKept m status
  fresh_kept status runs alone = record {
    safe = fresh_safe;
    book = λ _. fresh_book;
    awaited = λ _ k o e. absurd (none-some o (ap (λ (l : List Offer). slice_get l k) (sym is.offers) ∙ e));
    works = λ e. subst (λ (l : List Request). 0 < outstanding_count l) (sym entries_are) (works_first servers (λ none. running_done (sym e ∙ alone none)));
    idle = λ e. ap outstanding_count entries_are ∙ idle_first servers refl e;
    begun = λ _. is.begun_none ∙ sym (ap length is.offers);
  }
    where
      running_done : Running ≡ Done → ⊥
      running_done e = cc

      idle_first : (ss : List ℕ) → ss ≡ servers → status ≡ Done → outstanding_count (map (λ s. first_request s Holdings now) ss) ≡ 0
      idle_first [] same e = refl
      idle_first (s ∷ ss) same e = absurd (running_done (sym (runs (λ none. cons_nil (same ∙ none))) ∙ e))
        where
          cons_nil : s ∷ ss ≡ [] → ⊥
          cons_nil h = cc

-- ---- what holds of each check

may_of : (cap : VerifyCapValue) (servers : List ℕ) (es : List Request) (server : ℕ) (a : Asked) → AsksOrReads cap es server a → (a ≡ Holdings → Contains servers server) → MayAsk cap servers es server a
may_of cap servers es server Holdings may own = own refl
may_of cap servers es server (Allocation n len) may own = absurd may
may_of cap servers es server (Writing n offset len) may own = absurd may
may_of cap servers es server (Closing n) may own = absurd may
may_of cap servers es server (Reading n offset len) may own = may
may_of cap servers es server (Aborting n) may own = absurd may

pub right_of : (m : Machine) (servers : List ℕ) (status : CheckStatus) → IsKept m status → AsksItsOwn servers m.requests.entries → IsRecord m.requests → IsRight (state_of m servers status)
right_of m servers status k own recorded = record {
  works = k.works;
  idle = k.idle;
  once = k.safe.once;
  reads = k.safe.reads;
  asked = λ i r e. may_of m.cap servers m.requests.entries r.server r.asked (k.safe.asked i r e) (own i r e);
  recorded = recorded;
}
