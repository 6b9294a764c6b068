-- What waits of the readers of a file.
use Rattle.std.proofs.Common.{◌≡◌, ℕ, ◌⊎◌, inl, inr, List, [], ◌∷◌, ◌++◌, Contains, length, drop, Option, Some, None, refl, sym, ap, subst, ◌∙◌, arith}
use Rattle.std.specs.Prelude.{◌≢◌, slice_get}
use Rattle.std.proofs.lemmas.Bool.{cases_eq}
use Rattle.std.proofs.lemmas.List.Elements.{Contains-append_cases}
use Rattle.std.proofs.lemmas.Option.{slice_get_within}
use Rattle.lemmas.proofs.Members.{contains_tail}
use Rattle.lemmas.proofs.Positions.{get_pushed, get_push}
use Rattle.lemmas.proofs.Options.{one_there}
use Rattle.placement.proofs.Members.{Contains-head, Contains-nil}
use Rattle.request_record.specs.declared.requests.Asked.{Asked}
use Rattle.request_record.specs.declared.requests.Asked.TheVariants.{Reading}
use Rattle.request_record.specs.declared.requests.Request.{Request}
use Rattle.request_record.specs.Record.{RequestsState, asked_all, asked_more, first_request}
use Rattle.download_shares.specs.HoldingState.{TableState}
use Rattle.download_shares.specs.Table.{IsHolding}
use Rattle.download_shares.specs.declared.holding.Holding.{Holding}
use Rattle.download_shares.specs.BeginningMoves.{GoesOn}
use Rattle.download_shares.specs.Reads.{IsAnsweredBy, IsOutAt, IsReadAt}
use Rattle.download_shares.specs.BeginningState.{BeginningsState}
use Rattle.download_supply.specs.declared.wanted.Wanted.{Wanted}
use Rattle.download_file.specs.Changes.{OthersWait}
use Rattle.download_file.specs.State.{FileState, IsHeard, ReaderState, first_position, first_waiting, waiting_from, waiting_at, waiting_in, without}
use Rattle.download_file.specs.declared.reader.Waiting.{Waiting}
use Rattle.download_core.specs.Reading.{AreAwaited, AreKept, AreLinked, AreReadingBut, IsAskedOf, IsOf, IsReading}
use Rattle.download_core.specs.ReadingState.{ReadingState}
use Rattle.download_core.specs.ReadingSteps.{AsksParts}
use Rattle.download_core.proofs.Follows.{Follows}
use Rattle.download_core.proofs.Listed.{heard_pushed, heard_same, heard_without}

-- ---- requests

pub read_as : (es : List Request) (h g : Holding) (i offset len : ℕ) → g.server ≡ h.server → g.share ≡ h.share → IsReadAt es h i offset len → IsReadAt es g i offset len
read_as es h g i offset len servers shares r = record { request = r.request; there = r.there; of_server = r.of_server ∙ sym servers; asked = r.asked ∙ ap (λ n. Reading n offset len) (sym shares) }

asked_as : (es : List Request) (h g : Holding) (w : Waiting) → g.server ≡ h.server → g.share ≡ h.share → IsAskedOf es h w → IsAskedOf es g w
asked_as es h g w servers shares a = record { read = read_as es h g w.position w.wanted.read.offset w.wanted.read.length servers shares a.read; state = a.state }

-- each request stays as it is
abbrev pub Stays : List Request → List Request → Type 0
Stays es ns = (i : ℕ) (q : Request) → slice_get es i ≡ Some q → slice_get ns i ≡ Some q

stays_asked : (asks : List (ℕ × Asked)) (r : RequestsState) → Stays r.entries (asked_all asks r).entries
stays_asked [] r i q e = e
stays_asked (ask ∷ asks) r i q e = stays_asked asks (asked_more ask.0 ask.1 r) i q (get_push r.entries (first_request ask.0 ask.1 r.clock) i (slice_get_within r.entries i q e) ∙ e)

pub goes_stays : (s t : BeginningsState) → GoesOn s t → Stays s.holdings.requests.entries t.holdings.requests.entries
goes_stays s t g i q e = ap (λ (r : RequestsState). slice_get r.entries i) g.requests ∙ stays_asked g.asks s.holdings.requests i q e

pub out_stays : (es ns : List Request) (i : ℕ) → Stays es ns → IsOutAt es i → IsOutAt ns i
out_stays es ns i stays o = record { request = o.request; there = stays i o.request o.there; waits = o.waits }

pub asked_stays : (es ns : List Request) (h : Holding) (w : Waiting) → Stays es ns → IsAskedOf es h w → IsAskedOf ns h w
asked_stays es ns h w stays a = record {
  read = record { request = a.read.request; there = stays w.position a.read.request a.read.there; of_server = a.read.of_server; asked = a.read.asked };
  state = elim a.state [
    | inl out ↦ inl (out_stays es ns w.position stays out)
    | inr k ↦ inr (k.0, record { request = k.1.request; there = stays w.position k.1.request k.1.there; answer = k.1.answer })
  ];
}

-- the first that waits
pub first_is : (ws : List Waiting) (position : ℕ) → first_position ws ≡ Some position → (w : Waiting) × Contains ws w × (w.position ≡ position)
first_is [] position e = absurd cc
first_is (w ∷ ws) position e = (w, Contains-head w ws, cc)

unlike : (a b : ℕ) → (a ≡ b → ⊥) → Some b ≢ Some a
unlike a b other e = (let one : b ≡ a = cc in other (sym one))

-- ---- the holdings follow

module _ (s t : BeginningsState) (r : ReadingState) (kept : AreKept s r) (follows : Follows s.holdings.table t.holdings.table) where
  abbrev pub es : List Request
  es = s.holdings.requests.entries

  abbrev pub ns : List Request
  ns = t.holdings.requests.entries

  -- a share that is read was read
  pub read_back : (reader : ℕ) (g : Holding) → IsReading t r reader g → (h : Holding) × IsReading s r reader h × (g.server ≡ h.server) × (g.share ≡ h.share)
  read_back reader g k = elim (follows.back k.holding g k.is) [
    | inl w ↦ (w.held, record { live = k.live; holding = k.holding; of = k.of; is = w.is; left = w.left k.left }, w.of_server, w.of_share)
    | inr new ↦ (
        let f = kept.forth reader k.holding k.of in
        let inside = slice_get_within s.holdings.table.holdings k.holding f.held f.is in
        absurd (omega (arith, inside, new)))
  ]

  pub fallen_awaits : (but now : Option ℕ) → AreAwaited but s r
      → ((reader : ℕ) (g : Holding) (w : Waiting) → IsReading t r reader g → IsAskedOf es g w → IsAskedOf ns g w)
      → ((reader : ℕ) (g : Holding) (w : Waiting) → IsReading t r reader g → now ≢ Some reader → (but ≢ Some reader) × (IsAskedOf es g w → IsOutAt es w.position → IsOutAt ns w.position))
      → AreAwaited now t r
  fallen_awaits but now before still out = record {
    asked = λ reader g w k among. (
        let h = read_back reader g k in
        still reader g w k (asked_as es h.0 g w h.2 h.3 (before.asked reader h.0 w h.1 among)));
    first = λ reader position g k other e. (
        let h = read_back reader g k in
        let w = first_is (waiting_at r.file reader) position e in
        let o = out reader g w.0 k other in
        let asked = asked_as es h.0 g w.0 h.2 h.3 (before.asked reader h.0 w.0 h.1 w.1) in
        let was = before.first reader position h.0 h.1 o.0 e in
        subst (IsOutAt ns) w.2 (o.1 asked (subst (IsOutAt es) (sym w.2) was)));
  }

-- ---- the file goes on

module _ (but : Option ℕ) (s : BeginningsState) (r : ReadingState) (f : FileState) (before : AreAwaited but s r) where
  abbrev pub going : ReadingState
  going = record r { file = f }

  pub read_before : ((q : ℕ) → IsHeard f q → IsHeard r.file q) → (reader : ℕ) (h : Holding) → IsReading s going reader h → IsReading s r reader h
  read_before lives reader h k = record { live = lives reader k.live; holding = k.holding; of = k.of; is = k.is; left = k.left }

  pub goes_awaits : ((q : ℕ) → IsHeard f q → IsHeard r.file q) → ((q : ℕ) → IsHeard f q → waiting_at f q ≡ waiting_at r.file q) → AreAwaited but s going
  goes_awaits lives same = record {
    asked = λ reader h w k among. before.asked reader h w (read_before lives reader h k) (subst (λ (l : List Waiting). Contains l w) (same reader k.live) among);
    first = λ reader position h k other e. before.first reader position h (read_before lives reader h k) other (sym (ap first_position (same reader k.live)) ∙ e);
  }

-- a reader ends
pub ended_awaits : (but : Option ℕ) (s : BeginningsState) (r : ReadingState) (f : FileState) (reader : ℕ) → AreAwaited but s r → f.live ≡ without reader r.file.live → f.aside ≡ without reader r.file.aside → OthersWait r.file reader f → AreAwaited but s (record r { file = f })
ended_awaits but s r f reader before lives asides others =
    goes_awaits but s r f before
    (λ q k. (heard_without r.file f reader lives asides q k).0)
    (λ q k. others q (heard_without r.file f reader lives asides q k).1)

-- ---- an answer is taken

dropped : (ws : List Waiting) (w : Waiting) → Contains (drop 1 ws) w → Contains ws w
dropped [] w among = among
dropped (v ∷ ws) w among = contains_tail v w ws among

pub taken_awaits : (s : BeginningsState) (r : ReadingState) (f : FileState) (reader : ℕ) → AreAwaited (Some reader) s r → f.live ≡ r.file.live → f.aside ≡ r.file.aside → OthersWait r.file reader f → waiting_at f reader ≡ drop 1 (waiting_at r.file reader)
    → AreAwaited (Some reader) s (record r { file = f })
taken_awaits s r f reader before lives asides others taken = record {
  asked = λ q h w k among. before.asked q h w (was q h k) (more q w among (cases_eq q reader));
  first = λ q position h k other e. before.first q position h (was q h k) other (sym (ap first_position (others q (λ same. other (ap Some (sym same))))) ∙ e);
}
  where
    was : (q : ℕ) (h : Holding) → IsReading s (record r { file = f }) q h → IsReading s r q h
    was q h k = record { live = heard_same r.file f lives asides q k.live; holding = k.holding; of = k.of; is = k.is; left = k.left }

    more : (q : ℕ) (w : Waiting) → Contains (waiting_at f q) w → (q ≡ reader) ⊎ (q ≡ reader → ⊥) → Contains (waiting_at r.file q) w
    more q w among (inl same) =
        dropped (waiting_at r.file q) w (subst (λ (l : List Waiting). Contains l w)
        (ap (waiting_at f) same ∙ taken ∙ ap (λ x. drop 1 (waiting_at r.file x)) (sym same)) among)
    more q w among (inr other) = subst (λ (l : List Waiting). Contains l w) (others q other) among

-- the answer is not there yet
pub awaits_last : (s : BeginningsState) (r : ReadingState) (reader : ℕ) → AreAwaited (Some reader) s r
    → ((position : ℕ) (h : Holding) → IsReading s r reader h → first_waiting r.file reader ≡ Some position → IsOutAt s.holdings.requests.entries position) → AreAwaited None s r
awaits_last s r reader before last = record {
  asked = before.asked;
  first = λ q position h k other e. by q position h k e (cases_eq q reader);
}
  where
    by : (q position : ℕ) (h : Holding) → IsReading s r q h → first_waiting r.file q ≡ Some position → (q ≡ reader) ⊎ (q ≡ reader → ⊥) → IsOutAt s.holdings.requests.entries position
    by q position h k e (inl same) = last position h (subst (λ x. IsReading s r x h) same k) (sym (ap (first_waiting r.file) same) ∙ e)
    by q position h k e (inr other) = before.first q position h k (unlike q reader other) e

-- it is out, where it is no answer
pub unanswered : (s : BeginningsState) (r : ReadingState) (but : Option ℕ) (reader position : ℕ) (h : Holding) → AreAwaited but s r → IsReading s r reader h → first_waiting r.file reader ≡ Some position
    → ((bytes : List ℕ) → IsAnsweredBy s.holdings.requests.entries position bytes → ⊥) → IsOutAt s.holdings.requests.entries position
unanswered s r but reader position h before k e none =
    let w = first_is (waiting_at r.file reader) position e in
    elim (before.asked reader h w.0 k w.1).state [
      | inl out ↦ subst (IsOutAt s.holdings.requests.entries) w.2 out
      | inr a ↦ absurd (none a.0 (subst (λ p. IsAnsweredBy s.holdings.requests.entries p a.0) w.2 a.1))
    ]

-- less is said
pub awaits_less : (but : Option ℕ) (s : BeginningsState) (r : ReadingState) → AreAwaited None s r → AreAwaited but s r
awaits_less but s r before = record { asked = before.asked; first = λ q position h k other e. before.first q position h k (λ f. cc) e }

pub reading_less : (but : Option ℕ) (s : BeginningsState) (r : ReadingState) → AreReadingBut None s r → AreReadingBut but s r
reading_less but s r k = record { linked = k.linked; awaits = awaits_less but s r k.awaits; busy = k.busy }

-- ---- a reader begins

pub begun_awaits : (s t : BeginningsState) (r : ReadingState) (f : FileState) (holding : ℕ) → AreLinked s r → AreAwaited None s r → t.holdings.requests ≡ s.holdings.requests → t.holdings.table.holdings ≡ s.holdings.table.holdings
    → f.live ≡ r.file.live ++ length r.file.readers ∷ [] → f.aside ≡ r.file.aside → ((q : ℕ) → waiting_at f q ≡ waiting_at r.file q) → AreAwaited None t (record { file = f; holdings = r.holdings ++ holding ∷ [] })
begun_awaits s t r f holding linked before requests held lives asides waits = record {
  asked = λ q h w k among.
      let old = subst (λ (l : List Waiting). Contains l w) (waits q) among in
      subst (λ (y : RequestsState). IsAskedOf y.entries h w) (sym requests) (before.asked q h w (was q h k (w, old)) old);
  first = λ q position h k other e. (
      let f = sym (ap first_position (waits q)) ∙ e in
      let w = first_is (waiting_at r.file q) position f in
      subst (λ (y : RequestsState). IsOutAt y.entries position) (sym requests) (before.first q position h (was q h k (w.0, w.1)) other f));
}
  where
    -- nothing waits of the new one
    nothing : (q : ℕ) (w : Waiting) → q ≡ length r.file.readers → Contains (waiting_at r.file q) w → ⊥
    nothing q w e among = by (slice_get r.file.readers q) refl
      where
        by : (o : Option ReaderState) → slice_get r.file.readers q ≡ o → ⊥
        by None none = Contains-nil w (subst (λ (o : Option ReaderState). Contains (waiting_in o) w) none among)
        by (Some x) some = (let lt = slice_get_within r.file.readers q x some in omega (arith, lt, e))

    was : (q : ℕ) (h : Holding) → IsReading t (record { file = f; holdings = r.holdings ++ holding ∷ [] }) q h → (w : Waiting) × Contains (waiting_at r.file q) w → IsReading s r q h
    was q h k some = record {
      live = elim (heard_pushed r.file f (length r.file.readers) lives asides q k.live) [
        | inl old ↦ old
        | inr new ↦ absurd (nothing q some.0 (sym new) some.1)
      ];
      holding = k.holding;
      of = elim (get_pushed r.holdings holding k.holding q k.of) [
        | inl old ↦ old
        | inr last ↦ absurd (nothing q some.0 (last.0 ∙ linked.kept.linked) some.1)
      ];
      is = sym (ap (λ (l : List Holding). slice_get l k.holding) held) ∙ k.is;
      left = k.left;
    }

-- ---- more is asked

module _ (s t : BeginningsState) (r : ReadingState) (f : FileState) (reader holding : ℕ) (wanted : List Wanted) (before : AreAwaited None s r) (of : IsOf r reader holding) (done : AsksParts holding wanted s t)
    (goes : GoesOn s t) (lives : f.live ≡ r.file.live) (asides : f.aside ≡ r.file.aside) (waits : waiting_at f reader ≡ waiting_at r.file reader ++ waiting_from (length s.holdings.requests.entries) wanted) (others : OthersWait r.file reader f) where
  abbrev pub asked_next : ReadingState
  asked_next = record r { file = f }

  stays : Stays s.holdings.requests.entries t.holdings.requests.entries
  stays = goes_stays s t goes

  was : (q : ℕ) (h : Holding) → IsReading t asked_next q h → IsReading s r q h
  was q h k = record {
    live = heard_same r.file f lives asides q k.live;
    holding = k.holding;
    of = k.of;
    is = sym (ap (λ (u : TableState). slice_get u.holdings k.holding) done.table) ∙ k.is;
    left = k.left;
  }

  -- the holding of the reader that was asked
  own : (h : Holding) → IsReading s r reader h → IsHolding s.holdings.table holding h
  own h k = subst (λ x. IsHolding s.holdings.table x h) (one_there (slice_get r.holdings reader) k.holding holding k.of of) k.is

  pub asked_awaits : AreAwaited None t asked_next
  asked_awaits = record {
    asked = λ q h w k among. asked q h w (was q h k) among (cases_eq q reader);
    first = λ q position h k other e. first q position h (was q h k) e (cases_eq q reader);
  }
    where
      old : (q : ℕ) (h : Holding) (w : Waiting) → IsReading s r q h → Contains (waiting_at r.file q) w → IsAskedOf t.holdings.requests.entries h w
      old q h w k among = asked_stays s.holdings.requests.entries t.holdings.requests.entries h w stays (before.asked q h w k among)

      asked : (q : ℕ) (h : Holding) (w : Waiting) → IsReading s r q h → Contains (waiting_at f q) w → (q ≡ reader) ⊎ (q ≡ reader → ⊥) → IsAskedOf t.holdings.requests.entries h w
      asked q h w k among (inr other) = old q h w k (subst (λ (l : List Waiting). Contains l w) (others q other) among)
      asked q h w k among (inl same) =
          let here = subst (λ x. IsReading s r x h) same k in
          elim (Contains-append_cases (waiting_at r.file reader) (waiting_from (length s.holdings.requests.entries) wanted) w (subst (λ (l : List Waiting). Contains l w) (ap (waiting_at f) same ∙ waits) among)) [
            | inl more ↦ old reader h w here more
            | inr new ↦ (let a = done.asked h w (own h here) new in record { read = a.read; state = inl a.out })
          ]

      first_of : (position : ℕ) (h : Holding) → IsReading s r reader h → (ws : List Waiting) → waiting_at r.file reader ≡ ws → first_position (ws ++ waiting_from (length s.holdings.requests.entries) wanted) ≡ Some position → IsOutAt t.holdings.requests.entries position
      first_of position h k [] none e =
          let w = first_is (waiting_from (length s.holdings.requests.entries) wanted) position e in
          subst (IsOutAt t.holdings.requests.entries) w.2 (done.asked h w.0 (own h k) w.1).out
      first_of position h k (w ∷ ws) some e = out_stays s.holdings.requests.entries t.holdings.requests.entries position stays (before.first reader position h k (λ f. cc) (ap first_position some ∙ e))

      first : (q position : ℕ) (h : Holding) → IsReading s r q h → first_waiting f q ≡ Some position → (q ≡ reader) ⊎ (q ≡ reader → ⊥) → IsOutAt t.holdings.requests.entries position
      first q position h k e (inr other) =
          out_stays s.holdings.requests.entries t.holdings.requests.entries position stays (before.first q position h k (λ f. cc) (sym (ap first_position (others q other)) ∙ e))
      first q position h k e (inl same) =
          first_of position h (subst (λ x. IsReading s r x h) same k) (waiting_at r.file reader) refl (sym (ap first_position (ap (waiting_at f) same ∙ waits)) ∙ e)
