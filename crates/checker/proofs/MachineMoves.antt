-- How a check goes on, step by step.
use Rattle.std.proofs.Common.{◌≡◌, ◌≢◌, ℕ, zero, suc, ◌+◌, ◌-◌, ◌<◌, ◌≤◌, Bool, true, List, [], ◌∷◌, ◌++◌, length, set, Option, Some, None, ap, refl, sym, subst, ◌∙◌, arith, inl, inr, ◌⊎◌}
use Rattle.std.specs.Prelude.{Contains, slice_get}
use Rattle.std.proofs.lemmas.Bool.{cases_lt}
use Rattle.std.proofs.lemmas.Option.{slice_get_within, same_Some}
use Rattle.std.proofs.lemmas.List.Elements.{All-cons, All-nil}
use Rattle.lemmas.proofs.Members.{flat_map_has, contains_none}
use Rattle.lemmas.proofs.Positions.{get_last, get_pushed}
use Rattle.cap_text.specs.Cap.{VerifyCapValue}
use Rattle.request_record.specs.declared.requests.Asked.{Asked}
use Rattle.request_record.specs.declared.requests.Asked.TheVariants.{Holdings, Reading}
use Rattle.request_record.specs.declared.requests.Request.{Request}
use Rattle.request_record.specs.Record.{RequestsState}
use Rattle.request_record.specs.Asking.{AsksOnce}
use Rattle.share_reading.specs.declared.opening.Opening.TheVariants.{Start}
use Rattle.share_reading.specs.declared.reading.ShareReading as readings
use Rattle.share_reading.specs.declared.reading.ShareReading.TheVariants.{Beginning}
use Rattle.share_reading.specs.declared.verdict.Verdict.{Verdict}
use Rattle.checker.specs.Shares.{offered_in, offered_pairs, offered_to}
use Rattle.checker.specs.Offers.{key_of}
use Rattle.checker.specs.Hearing.{ComesTo, Hears, IsHeard, StandsAt}
use Rattle.checker.specs.Moves.{is_read}
use Rattle.checker.specs.Right.{AreOfShares}
use Rattle.checker.specs.Book.{AllAskOrRead, AreAwaited, AreAwaitedBut, AsksMore, AsksNothing, AsksOrReads, HasAsked, HasBook, IsAbout, IsAsking, IsAt, IsAwaited, IsAwaitedAt, IsAwaitingAt, IsBook, IsBrought, IsNextSpan, IsOffer, IsPiece, IsReading, IsSafe, IsSettledAt, IsStarted, IsUnread}
use Rattle.checker.specs.Wanted.{AnyWaits, offset_ahead}
use Rattle.checker.specs.declared.pieces.Pieces.{Pieces}
use Rattle.checker.specs.declared.state.Machine.{Machine}
use Rattle.checker.specs.declared.state.Told.{Told}
use Rattle.checker.specs.declared.offers.Offer.{Offer}
use Rattle.checker.specs.declared.offers.Stage.{Stage}
use Rattle.checker.specs.declared.offers.Stage.TheVariants.{Waiting, Read, Ended}
use Rattle.checker.specs.declared.wanted.Came.TheVariants.{Waits}
use Rattle.checker.specs.declared.wanted.Span.{Span}
use Rattle.checker.specs.declared.wanted.Wanted.{Wanted}
use Rattle.checker.proofs.Entries.{get_set_same}
use Rattle.checker.proofs.OfferMoves.{piece_about}
use Rattle.checker.proofs.AnswerMoves.{IsSafeToAsk, reads_first, reads_more, safe_ahead, span_request}
use Rattle.checker.proofs.BookMoves.{book_asked, book_done, book_set, get_changed, others_less, quiet_less, tail, tells_less, told_less}
use Rattle.checker.proofs.RecordMoves.{may_more, offered_push, once_next, shares_next}

-- ---- the same, spelled otherwise

pub book_as : (cap cap2 : VerifyCapValue) (keeps keeps2 : Bool) (es es2 : List Request) (told told2 : List Told) (owners owners2 : List ℕ) (offers offers2 : List Offer) (begun begun2 : ℕ) (todo : List ℕ)
    → cap2 ≡ cap → keeps2 ≡ keeps → es2 ≡ es → told2 ≡ told → owners2 ≡ owners → offers2 ≡ offers → begun2 ≡ begun
    → IsBook cap keeps es told owners offers begun todo → IsBook cap2 keeps2 es2 told2 owners2 offers2 begun2 todo
book_as cap cap2 keeps keeps2 es es2 told told2 owners owners2 offers offers2 begun begun2 todo e1 e2 e3 e4 e5 e6 e7 b =
    subst (λ (x : VerifyCapValue). IsBook x keeps2 es2 told2 owners2 offers2 begun2 todo) (sym e1)
    (subst (λ (x : Bool). IsBook cap x es2 told2 owners2 offers2 begun2 todo) (sym e2)
    (subst (λ (x : List Request). IsBook cap keeps x told2 owners2 offers2 begun2 todo) (sym e3)
    (subst (λ (x : List Told). IsBook cap keeps es x owners2 offers2 begun2 todo) (sym e4)
    (subst (λ (x : List ℕ). IsBook cap keeps es told x offers2 begun2 todo) (sym e5)
    (subst (λ (x : List Offer). IsBook cap keeps es told owners x begun2 todo) (sym e6)
    (subst (λ n. IsBook cap keeps es told owners offers n todo) (sym e7) b))))))

pub set_set : {X : Type 0} (xs : List X) (k : ℕ) (a b : X) → set (set xs k a) k b ≡ set xs k b
set_set [] k a b = refl
set_set (x ∷ xs) zero a b = refl
set_set (x ∷ xs) (suc k) a b = ap (λ l. x ∷ l) (set_set xs k a b)

-- ---- a piece of a share is asked for

not_waiting : (s : Stage) (r : readings.ShareReading) → s ≡ Read r → s ≡ Waiting → ⊥
not_waiting s r e f = clash (sym e ∙ f)
  where
    clash : Read r ≡ Waiting → ⊥
    clash g = cc

not_begun : (s : Stage) (v : Verdict) → s ≡ Ended v → s ≡ Waiting → ⊥
not_begun s v e f = clash (sym e ∙ f)
  where
    clash : Ended v ≡ Waiting → ⊥
    clash g = cc

entries_asked : (m new : Machine) (k : ℕ) (s : Span) (o : Offer) → HasAsked m k s o new → new.requests.entries ≡ m.requests.entries ++ span_request o.server o.share s.offset s.length m.requests.clock ∷ []
entries_asked m new k s o a = ap (λ (x : RequestsState). x.entries) a.requests

pub asks_asked : (m new : Machine) (k : ℕ) (s : Span) (o : Offer) → HasAsked m k s o new → AsksMore m new
asks_asked m new k s o a = record {
  cap = a.cap;
  keeps = a.keeps;
  asks = (o.server, Reading o.share s.offset s.length) ∷ [];
  reads = All-cons (λ (ask : ℕ × Asked). is_read ask.1 ≡ true) (o.server, Reading o.share s.offset s.length) [] refl (All-nil (λ (ask : ℕ × Asked). is_read ask.1 ≡ true));
  requests = a.requests;
}

pub asks_nothing : (m new : Machine) → AsksNothing m new → AsksMore m new
asks_nothing m new a = record { cap = a.cap; keeps = a.keeps; asks = []; reads = All-nil (λ (ask : ℕ × Asked). is_read ask.1 ≡ true); requests = a.requests }

pub safe_asked : (m new : Machine) (k : ℕ) (s : Span) (o : Offer) → IsSafe m → IsSafeToAsk m.cap m.requests.entries (key_of o) s.offset s.length → HasAsked m k s o new → IsSafe new
safe_asked m new k s o safe may a = record {
  once = subst AsksOnce (sym (entries_asked m new k s o a)) (once_next m.cap m.requests.entries (key_of o) s.offset s.length m.requests.clock may safe.once);
  reads = subst (λ (c : VerifyCapValue). AreOfShares c new.requests.entries) (sym a.cap)
      (subst (AreOfShares m.cap) (sym (entries_asked m new k s o a)) (shares_next m.cap m.requests.entries (key_of o) s.offset s.length m.requests.clock may safe.reads));
  asked = subst (λ (c : VerifyCapValue). AllAskOrRead c new.requests.entries) (sym a.cap) (subst (AllAskOrRead m.cap) (sym (entries_asked m new k s o a)) kinds);
}
  where
    one : Request
    one = span_request o.server o.share s.offset s.length m.requests.clock

    more : List Request
    more = m.requests.entries ++ one ∷ []

    kinds : AllAskOrRead m.cap more
    kinds i x e = elim (get_pushed m.requests.entries one x i e) [
      | inl before ↦ may_more m.cap m.requests.entries more (offered_push m.cap.total m.requests.entries one) x.server x.asked (safe.asked i x before)
      | inr pushed ↦ subst (λ (q : Request). AsksOrReads m.cap more q.server q.asked) pushed.1 (offered_push m.cap.total m.requests.entries one (key_of o) may.listed)
    ]

-- the share of each offer was offered
pub listed_at : (m : Machine) (todo : List ℕ) → HasBook m todo → (k : ℕ) (o : Offer) → slice_get m.offers.items k ≡ Some o → Contains (offered_pairs m.cap.total m.requests.entries) (key_of o)
listed_at m todo b k o at =
    let is = b.offered k o at in
    let holdings : is.request.asked ≡ Holdings = b.asks is.position is.request is.first is.there in
    flat_map_has (λ (r : Request). offered_to m.cap.total r.server r.asked r.outcome) m.requests.entries is.position is.request (key_of o) is.there
    (subst (λ (a : Asked). Contains (offered_to m.cap.total is.request.server a is.request.outcome) (key_of o)) (sym holdings)
    (subst (λ s. Contains (offered_in m.cap.total s is.request.outcome) (key_of o)) (sym is.server) is.listed))

pub unread_at : (m : Machine) (o : Offer) → HasBook m [] → slice_get m.offers.items m.begun ≡ Some o → IsUnread m.requests.entries o
unread_at m o b at = subst (IsAt m.cap m.requests.entries [] o) (b.unread m.begun o at (omega arith)) (b.reading m.begun o at)

-- a share that is read so far
pub reading_at : (m : Machine) (todo : List ℕ) (k : ℕ) (r : readings.ShareReading) (o : Offer) → HasBook m todo → IsAsking m k r o → IsReading m.cap m.requests.entries todo o r
reading_at m todo k r o b is = subst (IsAt m.cap m.requests.entries todo o) is.stage (b.reading k o is.there)

pub may_ask : (m : Machine) (todo : List ℕ) (k : ℕ) (r : readings.ShareReading) (o : Offer) (s : Span) → HasBook m todo → IsAsking m k r o → IsNextSpan r o s
    → IsSafeToAsk m.cap m.requests.entries (key_of o) s.offset s.length
may_ask m todo k r o s b is span =
    let many = length o.wanted.items in
    subst (λ n. IsSafeToAsk m.cap m.requests.entries (key_of o) n s.length) (sym span.offset)
    (subst (IsSafeToAsk m.cap m.requests.entries (key_of o) (offset_ahead r many)) (sym span.long)
    (safe_ahead m.cap m.requests.entries todo o r (reading_at m todo k r o b is) many refl span.ahead (listed_at m todo b k o is.there)))

pub asking_more : (m new : Machine) (k : ℕ) (r : readings.ShareReading) (o : Offer) (s : Span) → IsAsking m k r o → (a : HasAsked m k s o new) → IsAsking new k r a.offer
asking_more m new k r o s is a = record {
  there = ap (λ (l : List Offer). slice_get l k) a.offers ∙ get_set_same m.offers.items k o a.offer is.there;
  stage = a.more.stage ∙ is.stage;
}

pub book_more : (m new : Machine) (todo : List ℕ) (k : ℕ) (r : readings.ShareReading) (o : Offer) (s : Span) → HasBook m todo → IsAsking m k r o → IsNextSpan r o s → HasAsked m k s o new → HasBook new todo
book_more m new todo k r o s b is span a =
    book_as m.cap new.cap m.keeps new.keeps (es ++ span_request o.server o.share s.offset s.length m.requests.clock ∷ []) new.requests.entries m.told.items new.told.items (m.owners.items ++ k ∷ []) new.owners.items
    (set m.offers.items k n) new.offers.items m.begun new.begun todo
    a.cap a.keeps (entries_asked m new k s o a) a.told a.owners a.offers a.begun
    (book_asked m.cap m.keeps es m.told.items m.owners.items m.offers.items m.begun todo b k o n s.offset s.length m.requests.clock is.there key (ap (λ (x : Pieces). x.keeps) a.more.pieces)
    (not_waiting o.stage r is.stage) (not_waiting n.stage r (a.more.stage ∙ is.stage))
    (subst (IsAt m.cap (es ++ span_request o.server o.share s.offset s.length m.requests.clock ∷ []) todo n) (sym (a.more.stage ∙ is.stage)) reads))
  where
    es : List Request
    es = m.requests.entries

    n : Offer
    n = a.offer

    key : key_of n ≡ key_of o
    key = ap (λ x. (x, n.share)) a.more.server ∙ ap (λ x. (o.server, x)) a.more.share

    reads : IsReading m.cap (es ++ span_request o.server o.share s.offset s.length m.requests.clock ∷ []) todo n r
    reads =
        let many = length o.wanted.items in
        subst (λ x. IsReading m.cap (es ++ span_request o.server o.share x s.length m.requests.clock ∷ []) todo n r) (sym span.offset)
        (subst (λ x. IsReading m.cap (es ++ span_request o.server o.share (offset_ahead r many) x m.requests.clock ∷ []) todo n r) (sym span.long)
        (reads_more m.cap es todo o r (reading_at m todo k r o b is) n m.requests.clock span.ahead a.more))

-- what was asked for waits
pub waits_more : (m new : Machine) (k : ℕ) (o : Offer) (s : Span) → (a : HasAsked m k s o new) → AnyWaits a.offer.wanted.items
waits_more m new k o s a =
    let added : Wanted = record { position = length m.requests.entries; came = Waits } in
    (length o.wanted.items, added, ap (λ (l : List Wanted). slice_get l (length o.wanted.items)) a.more.wanted ∙ get_last o.wanted.items added, refl)

-- ---- a share is begun

pub book_begun : (m : Machine) (o n : Offer) → HasBook m [] → slice_get m.offers.items m.begun ≡ Some o → n ≡ record o { stage = Read (Beginning Start) }
    → IsBook m.cap m.keeps m.requests.entries m.told.items m.owners.items (set m.offers.items m.begun n) (m.begun + 1) []
book_begun m o n b at is =
    book_set m.cap m.keeps m.requests.entries m.told.items m.owners.items m.offers.items m.begun (m.begun + 1) [] [] b m.begun o n at (ap key_of is) (ap (λ (x : Offer). x.pieces.keeps) is)
    (λ l x other e. b.reading l x e) b.offered b.tells b.quiet (λ i h. absurd (contains_none i h))
    (record {
      up_to = λ l lt. up_to l m.begun lt;
      from = λ l le. (omega (arith, le), λ e. omega (arith, le, e));
      few = omega (arith, slice_get_within m.offers.items m.begun o at);
    })
    (not_waiting n.stage (Beginning Start) (ap (λ (x : Offer). x.stage) is))
    (subst (IsOffer m.cap m.requests.entries []) (sym is) (reads_first m.cap m.requests.entries [] o (record o { stage = Read (Beginning Start) }) (unread_at m o b at) refl refl refl refl refl refl refl))
  where
    up_to : (l k : ℕ) → l < k + 1 → (l < k) ⊎ (l ≡ k)
    up_to l k lt = elim (cases_lt l k) [ inl below ↦ inl below | inr le ↦ inr (omega (arith, lt, le)) ]

-- ---- what came for a piece is taken

-- an offer is another
pub awaited_set : (offers : List Offer) (k : ℕ) (o n : Offer) → slice_get offers k ≡ Some o → IsAwaited n → AreAwaited offers → AreAwaited (set offers k n)
awaited_set offers k o n at here all l x e = elim (get_changed offers k l o n x at e) [
  | inl same ↦ subst IsAwaited (sym same.1) here
  | inr other ↦ all l x other.1
]

pub awaited_but : (offers : List Offer) (k : ℕ) (o n : Offer) → slice_get offers k ≡ Some o → AnyWaits n.wanted.items ⊎ (n.wanted.items ≡ []) → AreAwaited offers → AreAwaitedBut k (set offers k n)
awaited_but offers k o n at here all = record {
  others = λ l x apart e. elim (get_changed offers k l o n x at e) [
    | inl same ↦ absurd (apart same.0)
    | inr other ↦ all l x other.1
  ];
  here = λ x e. subst (λ (y : Offer). AnyWaits y.wanted.items ⊎ (y.wanted.items ≡ [])) (same_Some n x (sym (get_set_same offers k o n at) ∙ e)) here;
}

-- more is asked of the one
pub awaited_asked : (offers : List Offer) (k : ℕ) (o n : Offer) → slice_get offers k ≡ Some o → AnyWaits n.wanted.items → AreAwaitedBut k offers → AreAwaitedBut k (set offers k n)
awaited_asked offers k o n at waits all = record {
  others = λ l x apart e. elim (get_changed offers k l o n x at e) [
    | inl same ↦ absurd (apart same.0)
    | inr other ↦ all.others l x apart other.1
  ];
  here = λ x e. inl (subst (λ (y : Offer). AnyWaits y.wanted.items) (same_Some n x (sym (get_set_same offers k o n at) ∙ e)) waits);
}

-- until one of its pieces waits
pub awaited_all : (offers : List Offer) (k : ℕ) (o : Offer) (r : readings.ShareReading) → slice_get offers k ≡ Some o → o.stage ≡ Read r → (o.wanted.items ≢ []) → AreAwaitedBut k offers → AreAwaited offers
awaited_all offers k o r at stage some all l x e = elim (cases_lt l k) [
  | inl lt ↦ all.others l x (λ h. omega (arith, h, lt)) e
  | inr le ↦ elim (cases_lt k l) [
    | inl lt ↦ all.others l x (λ h. omega (arith, h, lt)) e
    | inr ge ↦
        let same : o ≡ x = same_Some o x (sym at ∙ ap (slice_get offers) (here l le ge) ∙ e) in
        subst IsAwaited same (subst (IsAwaitedAt o) (sym stage) (elim (all.here o at) [
          | inl waits ↦ waits
          | inr none ↦ absurd (some none)
        ]))
  ]
]
  where
    here : (l : ℕ) → k ≤ l → l ≤ k → k ≡ l
    here l le ge = omega (arith, le, ge)

module _ (m : Machine) (k : ℕ) (r : readings.ShareReading) (piece position : ℕ) (bytes : Option (List ℕ)) (todo : List ℕ) (w : IsAwaitingAt m k r piece position bytes todo) where
  abbrev pub es : List Request
  es = m.requests.entries

  was_reading : IsReading m.cap es (position ∷ todo) w.offer r
  was_reading = reading_at m (position ∷ todo) k r w.offer w.book w.is

  pub hears : Hears m.cap es todo w.offer r piece bytes
  hears = record {
    wanted = w.wanted;
    there = w.there;
    is = subst (λ p. IsReading m.cap es (p ∷ todo) w.offer r) (sym w.at) was_reading;
    settled = subst (IsSettledAt es) (sym w.at) w.settled;
    brought = subst (λ p. IsBrought es p bytes) (sym w.at) w.brought;
  }

  module _ (n : Offer) (next : Option readings.ShareReading) (h : IsHeard m.cap w.offer r piece bytes n next) where
    is_offer : (x : Option readings.ShareReading) → StandsAt n x → ComesTo m.cap es todo n x → IsOffer m.cap es todo n
    is_offer (Some s) stands comes = subst (IsAt m.cap es todo n) (sym stands.0) comes
    is_offer None stands comes = subst (IsAt m.cap es todo n) (sym comes.1) comes.2

    is_started : (x : Option readings.ShareReading) → StandsAt n x → IsStarted n.stage
    is_started (Some s) stands = not_waiting n.stage s stands.0
    is_started None stands = not_begun n.stage stands.0 stands.1

    key : key_of n ≡ key_of w.offer
    key = ap (λ s. (s, n.share)) h.same.server ∙ ap (λ i. (w.offer.server, i)) h.same.share

    asked : IsPiece es (position ∷ todo) (key_of w.offer) r piece w.wanted
    asked = was_reading.wanted piece w.wanted w.there

    asked_there : slice_get es position ≡ Some asked.request
    asked_there = ap (slice_get es) (sym w.at) ∙ asked.there

    asked_about : IsAbout (key_of w.offer) asked.request
    asked_about = piece_about es (position ∷ todo) (key_of w.offer) r piece w.wanted asked.request asked asked.there

    begun_before : k < m.begun
    begun_before = elim (cases_lt k m.begun) [
      | inl lt ↦ lt
      | inr le ↦ absurd (not_waiting w.offer.stage r w.is.stage (w.book.unread k w.offer w.is.there le))
    ]

    pub book_heard : IsBook m.cap m.keeps es m.told.items m.owners.items (set m.offers.items k n) m.begun todo
    book_heard =
        book_set m.cap m.keeps es m.told.items m.owners.items m.offers.items m.begun m.begun (position ∷ todo) todo w.book k w.offer n w.is.there key h.same.keeps
        (others_less m.cap m.keeps es m.told.items m.owners.items m.offers.items m.begun position todo w.book w.behind k w.offer asked.request w.is.there asked_there asked_about)
        (told_less m.cap m.keeps es m.told.items m.owners.items m.offers.items m.begun position todo w.book w.behind)
        (tells_less m.cap m.keeps es m.told.items m.owners.items m.offers.items m.begun position todo w.book w.behind)
        (quiet_less m.cap m.keeps es m.told.items m.owners.items m.offers.items m.begun position todo w.book w.behind)
        (λ i h. w.book.inside i (tail position i todo h))
        (record { up_to = λ l lt. inl lt; from = λ l le. (le, λ e. omega (arith, le, e, begun_before)); few = w.book.few })
        (is_started next h.stands)
        (is_offer next h.stands (h.comes es todo hears))

-- ---- results

pub safe_same : (m new : Machine) → AsksNothing m new → IsSafe m → IsSafe new
safe_same m new same safe = record {
  once = subst AsksOnce (ap (λ (x : RequestsState). x.entries) (sym same.requests)) safe.once;
  asked = subst (λ (c : VerifyCapValue). AllAskOrRead c new.requests.entries) (sym same.cap)
      (subst (λ (l : List Request). AllAskOrRead m.cap l) (ap (λ (x : RequestsState). x.entries) (sym same.requests)) safe.asked);
  reads = subst (λ (c : VerifyCapValue). AreOfShares c new.requests.entries) (sym same.cap)
      (subst (λ (l : List Request). AreOfShares m.cap l) (ap (λ (x : RequestsState). x.entries) (sym same.requests)) safe.reads);
}

-- ---- the share that a request reads

pub record IsOwned (m : Machine) (position k : ℕ) (o : Offer) : Type 0 where
  pub there : slice_get m.offers.items k ≡ Some o
  pub request : Request
  pub asks : slice_get m.requests.entries position ≡ Some request
  pub about : IsAbout (key_of o) request

-- by the owner that was read
pub owned_at : (m : Machine) (todo : List ℕ) (position p k : ℕ) → HasBook m todo → length m.told.items ≤ position → p ≡ position - length m.told.items → slice_get m.owners.items p ≡ Some k
    → (o : Offer) × IsOwned m position k o
owned_at m todo position p k b low is e =
    let owner = b.owned p k e in
    let here : length m.told.items + p ≡ position = omega (arith, is, low) in
    (owner.offer, record { there = owner.there; request = owner.request; asks = ap (slice_get m.requests.entries) (sym here) ∙ owner.asks; about = owner.about })

pub book_passed : (m : Machine) (position : ℕ) (todo : List ℕ) (k : ℕ) (o : Offer) → HasBook m (position ∷ todo) → length m.told.items ≤ position → IsOwned m position k o
    → ((r : readings.ShareReading) (i : ℕ) (w : Wanted) → o.stage ≡ Read r → slice_get o.wanted.items i ≡ Some w → w.position ≡ position → ⊥) → HasBook m todo
book_passed m position todo k o b low is other =
    book_done m.cap m.keeps m.requests.entries m.told.items m.owners.items m.offers.items m.begun position todo b low k o is.request is.there is.asks is.about other
