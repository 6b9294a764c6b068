-- What comes of the pieces of a share that is read.
use Rattle.std.proofs.Common.{◌≡◌, ℕ, zero, suc, ◌+◌, ◌<◌, ◌≤◌, Bool, true, false, cond, List, [], ◌∷◌, ◌++◌, length, Some, None, Vec, Global, ap, refl, sym, subst, ◌∙◌, arith, inl, inr, ◌⊎◌, true≢false}
use Rattle.std.specs.Prelude.{Contains, slice_get}
use Rattle.std.proofs.lemmas.List.{map-append}
use Rattle.std.proofs.lemmas.List.Elements.{Contains-append_left, Contains-append_right, Contains-append_cases, Contains-push, Contains-push_cases}
use Rattle.std.proofs.lemmas.Option.{none-some, same_Some, slice_get_within}
use Rattle.share_reading.proofs.ReadLemmas.{more_led}
use Rattle.lemmas.proofs.Members.{contains_cases, contains_head, contains_none, contains_tail}
use Rattle.lemmas.proofs.Positions.{get_pushed, get_last}
use Rattle.cap_text.specs.Cap.{VerifyCapValue}
use Rattle.placement.specs.Matching.{Pair}
use Rattle.wire.specs.declared.message.Body.TheVariants.{Ask, Have, Allocate, Granted, Already, Busy, Full, Write, Wrote, WrongOffset, Close, Closed, NotComplete, Abort, Read, Data, NoShare}
use Rattle.request_record.specs.declared.requests.Asked.{Asked}
use Rattle.request_record.specs.declared.requests.Asked.TheVariants.{Reading}
use Rattle.request_record.specs.declared.requests.Outcome.{Outcome}
use Rattle.request_record.specs.declared.requests.Outcome.TheVariants.{Unawaited, Outstanding, Answered, Lost}
use Rattle.request_record.specs.declared.requests.Request.{Request}
use Rattle.request_record.specs.Record.{first_request, is_outstanding}
use Rattle.share_verify.specs.declared.check.Check.{Check}
use Rattle.share_reading.specs.OpeningReads.{Brought}
use Rattle.share_reading.specs.declared.opening.Opening.TheVariants.{Start, Second, Header, Block}
use Rattle.share_reading.specs.Reading as reading
use Rattle.share_reading.specs.Judged.{IsJudgedBy}
use Rattle.share_reading.specs.Reads.{AsksNone, IsAsked, more_back, more_front}
use Rattle.share_reading.specs.Verdict.{AreAnswered, AreFull, HasLed, IsJudged, IsVerdict, Settled, brought_of}
use Rattle.share_reading.specs.Whole.{IsWhole, joined}
use Rattle.share_reading.specs.declared.judged.Found.TheVariants as found
use Rattle.share_reading.specs.declared.reading.Progress.{Progress}
use Rattle.share_reading.specs.declared.reading.Progress.TheVariants.{Next, Whole}
use Rattle.share_reading.specs.declared.reading.ShareReading as readings
use Rattle.share_reading.specs.declared.reading.ShareReading.TheVariants.{Beginning, Remaining}
use Rattle.share_reading.specs.declared.verdict.Verdict.{Verdict}
use Rattle.share_reading.specs.declared.verdict.Verdict.TheVariants as verdicts
use Rattle.share_reading.proofs.JudgedLemmas.{joined_push}
use Rattle.share_reading.proofs.ReadingLemmas.{end_whole, go_on}
use Rattle.share_reading.proofs.VerdictLemmas.{IsBroughtBy, brought_from, brought_has}
use Rattle.checker.specs.Shares.{offered_pairs, settled_in, settled_of}
use Rattle.checker.specs.Offers.{IsEndedBy, IsKeptBy, IsWanting, key_of}
use Rattle.checker.specs.Pieces.{HasPieces}
use Rattle.checker.specs.Book.{AreReadAt, HasCome, IsAbout, IsEnded, IsHeld, IsPiece, IsReadAt, IsReading, IsUnread}
use Rattle.checker.specs.Hearing.{IsTakenFirst}
use Rattle.checker.specs.Wanted.{AllCame, AnyWaits, IsAhead, NoneWaits, length_ahead, offset_ahead, positions_of}
use Rattle.checker.specs.declared.offers.Offer.{Offer}
use Rattle.checker.specs.declared.wanted.Came.{Came}
use Rattle.checker.specs.declared.wanted.Came.TheVariants.{Waits, Bytes, Nothing}
use Rattle.checker.specs.declared.wanted.Wanted.{Wanted}
use Rattle.checker.proofs.Entries.{about_by, IsSettledBy, settled_from, settled_has}
use Rattle.checker.proofs.AheadLemmas.{asked_ahead, length_first, next_ahead, none_ahead, none_behind, offset_first, spans_apart}
use Rattle.checker.proofs.Joining.{joined_both}
use Rattle.checker.proofs.OfferMoves.{IsOneOf, answered_quiet, brought, sought, one_of, piece_about, piece_push, reads_push}

-- ---- what a request that waits no more tells

abbrev pub full_read : ℕ → ℕ → List ℕ → Settled
full_read offset len bytes = record { offset = offset; len = len; answer = Some bytes }

tells : (a : Asked) (o : Outcome) (share offset len : ℕ) (bytes : List ℕ) → a ≡ Reading share offset len → o ≡ Answered (Data bytes)
    → settled_in a o ≡ record { offset = offset; len = len; answer = Some bytes } ∷ []
tells a o share offset len bytes asked answer = ap (λ (x : Asked). settled_in x o) asked ∙ ap (settled_in (Reading share offset len)) answer

only_one : {X : Type 0} (x y : X) (xs : List X) → xs ≡ y ∷ [] → Contains xs x → y ≡ x
only_one x y xs is at = elim (contains_cases y x [] (subst (λ l. Contains l x) is at)) [
  | inl same ↦ same
  | inr none ↦ absurd (contains_none x none)
]

-- no bytes came
tells_lost : (o : Outcome) (share position len : ℕ) → is_outstanding o ≡ false → ((bytes : List ℕ) → o ≡ Answered (Data bytes) → ⊥)
    → settled_in (Reading share position len) o ≡ record { offset = position; len = len; answer = None } ∷ []
tells_lost Unawaited share position len quiet none = refl
tells_lost Outstanding share position len quiet none = absurd (true≢false quiet)
tells_lost (Answered (Ask i)) share position len quiet none = refl
tells_lost (Answered (Have r h)) share position len quiet none = refl
tells_lost (Answered (Allocate i l)) share position len quiet none = refl
tells_lost (Answered Granted) share position len quiet none = refl
tells_lost (Answered (Already d)) share position len quiet none = refl
tells_lost (Answered Busy) share position len quiet none = refl
tells_lost (Answered Full) share position len quiet none = refl
tells_lost (Answered (Write i o b)) share position len quiet none = refl
tells_lost (Answered (Wrote n)) share position len quiet none = refl
tells_lost (Answered (WrongOffset n)) share position len quiet none = refl
tells_lost (Answered (Close i)) share position len quiet none = refl
tells_lost (Answered (Closed d)) share position len quiet none = refl
tells_lost (Answered (NotComplete n)) share position len quiet none = refl
tells_lost (Answered (Abort i)) share position len quiet none = refl
tells_lost (Answered (Read i o l)) share position len quiet none = refl
tells_lost (Answered (Data b)) share position len quiet none = absurd (none b refl)
tells_lost (Answered NoShare) share position len quiet none = refl
tells_lost Lost share position len quiet none = refl

-- ---- lists of reads

reads_have : (es : List Request) (key : Pair) (positions : List ℕ) (reads : List Brought) (b : Brought) → AreReadAt es key positions reads → Contains reads b
    → (i : ℕ) × Contains positions i × IsReadAt es key i b
reads_have es key [] [] b are at = absurd (contains_none b at)
reads_have es key [] (c ∷ cs) b are at = absurd are
reads_have es key (p ∷ ps) [] b are at = absurd are
reads_have es key (p ∷ ps) (c ∷ cs) b are at = elim (contains_cases c b cs at) [
  | inl here ↦ (p, contains_head p ps, subst (IsReadAt es key p) here are.0)
  | inr later ↦ (let found = reads_have es key ps cs b are.1 later in (found.0, contains_tail p found.0 ps found.1, found.2))
]

pub reads_snoc : (es : List Request) (key : Pair) (positions : List ℕ) (reads : List Brought) (p : ℕ) (b : Brought) → AreReadAt es key positions reads → IsReadAt es key p b
    → AreReadAt es key (positions ++ p ∷ []) (reads ++ b ∷ [])
reads_snoc es key [] [] p b are is = (is, tt)
reads_snoc es key [] (c ∷ cs) p b are is = absurd are
reads_snoc es key (q ∷ qs) [] p b are is = absurd are
reads_snoc es key (q ∷ qs) (c ∷ cs) p b are is = (are.0, reads_snoc es key qs cs p b are.1 is)

pub advances_long : (cap : VerifyCapValue) (r : readings.ShareReading) (bytes : List ℕ) (p : Progress) → reading.Advances cap r bytes p → length bytes ≡ reading.next_length r
advances_long cap (Beginning o) bytes (Next (Beginning n)) a = a.0
advances_long cap (Beginning Start) bytes (Next (Remaining n)) a = absurd a.1
advances_long cap (Beginning (Second s)) bytes (Next (Remaining n)) a = absurd a.1
advances_long cap (Beginning (Header h)) bytes (Next (Remaining n)) a = absurd a.1
advances_long cap (Beginning (Block b)) bytes (Next (Remaining n)) a = a.1.0
advances_long cap (Beginning Start) bytes Whole a = absurd a.1
advances_long cap (Beginning (Second s)) bytes Whole a = absurd a.1
advances_long cap (Beginning (Header h)) bytes Whole a = absurd a.1
advances_long cap (Beginning (Block b)) bytes Whole a = a.1.0
advances_long cap (Remaining r) bytes (Next (Beginning n)) a = absurd a
advances_long cap (Remaining r) bytes (Next (Remaining n)) a = a.0
advances_long cap (Remaining r) bytes Whole a = a.0

same_whole : (reads more : List Brought) (share : List ℕ) → ((b : Brought) → Contains reads b → Contains more b) → ((b : Brought) → Contains more b → Contains reads b)
    → IsWhole reads share → IsWhole more share
same_whole reads more share there back is = record {
  has = λ b at. is.has b (back b at);
  covered = λ position lt. (let found = is.covered position lt in (found.0, there found.0 found.1, found.2, found.3));
}

-- what is in more reads
more_cases : (behind : Bool) (front back : List Brought) (new b : Brought) → Contains (cond behind front (front ++ new ∷ []) ++ cond behind (back ++ new ∷ []) back) b
    → Contains (front ++ back) b ⊎ (new ≡ b)
more_cases true front back new b at = elim (Contains-append_cases front (back ++ new ∷ []) b at) [
  | inl here ↦ inl (Contains-append_left front back b here)
  | inr later ↦ elim (Contains-push_cases back new b later) [
    | inl there ↦ inl (Contains-append_right front back b there)
    | inr same ↦ inr same
  ]
]
more_cases false front back new b at = elim (Contains-append_cases (front ++ new ∷ []) back b at) [
  | inl here ↦ elim (Contains-push_cases front new b here) [
    | inl there ↦ inl (Contains-append_left front back b there)
    | inr same ↦ inr same
  ]
  | inr later ↦ inl (Contains-append_right front back b later)
]

pub more_old : {X : Type 0} (behind : Bool) (front back : List X) (new b : X) → Contains (front ++ back) b → Contains (cond behind front (front ++ new ∷ []) ++ cond behind (back ++ new ∷ []) back) b
more_old true front back new b at = elim (Contains-append_cases front back b at) [
  | inl here ↦ Contains-append_left front (back ++ new ∷ []) b here
  | inr later ↦ Contains-append_right front (back ++ new ∷ []) b (Contains-append_left back (new ∷ []) b later)
]
more_old false front back new b at = elim (Contains-append_cases front back b at) [
  | inl here ↦ Contains-append_left (front ++ new ∷ []) back b (Contains-append_left front (new ∷ []) b here)
  | inr later ↦ Contains-append_right (front ++ new ∷ []) back b later
]

pub more_new : {X : Type 0} (behind : Bool) (front back : List X) (new : X) → Contains (cond behind front (front ++ new ∷ []) ++ cond behind (back ++ new ∷ []) back) new
more_new true front back new = Contains-append_right front (back ++ new ∷ []) new (Contains-push back new)
more_new false front back new = Contains-append_left (front ++ new ∷ []) back new (Contains-push front new)

-- the bytes of more reads
more_joined : (behind : Bool) (text bytes : List ℕ) (front : List Brought) (position : ℕ) → text ≡ joined front
    → cond behind text (text ++ bytes) ≡ joined (cond behind front (front ++ (position, bytes) ∷ []))
more_joined true text bytes front position is = is
more_joined false text bytes front position is = ap (λ (l : List ℕ). l ++ bytes) is ∙ sym (joined_push front (position, bytes))

less_joined : (behind : Bool) (text bytes : List ℕ) (back : List Brought) (position : ℕ) → text ≡ joined back
    → cond behind (text ++ bytes) text ≡ joined (cond behind (back ++ (position, bytes) ∷ []) back)
less_joined true text bytes back position is = ap (λ (l : List ℕ). l ++ bytes) is ∙ sym (joined_push back (position, bytes))
less_joined false text bytes back position is = is

-- ---- the next request

pub more_asked : (cap : VerifyCapValue) (reads more : List Brought) (position len : ℕ) → ((b : Brought) → Contains reads b → Contains more b) → IsAsked cap reads position len → IsAsked cap more position len
more_asked cap reads more position len grows is = elim is [
  | inl opens ↦ inl (record { opening = opens.opening; led = more_led reads more grows opens.opening opens.led; offset_is = opens.offset_is; len_is = opens.len_is })
  | inr rest ↦ inr (record { u = rest.u; block = rest.block; ueb = rest.ueb; brought = grows _ rest.brought; some = rest.some; low = rest.low; high = rest.high })
]

abbrev pub offset_in : Asked → ℕ
offset_in (Reading n offset count) = offset
offset_in a = 0

abbrev count_in : Asked → ℕ
count_in (Reading n offset count) = count
count_in a = 0

-- what is safe to ask of a share
pub record IsSafeToAsk (cap : VerifyCapValue) (es : List Request) (key : Pair) (offset len : ℕ) : Type 0 where
  pub apart : (i : ℕ) (x : Request) (from count : ℕ) → slice_get es i ≡ Some x → IsAbout key x → x.asked ≡ Reading key.1 from count
      → (from + count ≤ offset) ⊎ (offset + len ≤ from)
  pub asked : IsAsked cap (brought_of (settled_of es key.0 key.1)) offset len
  pub listed : Contains (offered_pairs cap.total es) key

abbrev pub span_request : ℕ → ℕ → ℕ → ℕ → ℕ → Request
span_request server share offset len now = first_request server (Reading share offset len) now

-- a share of which nothing was read is read so far
pub reads_first : (cap : VerifyCapValue) (es : List Request) (todo : List ℕ) (o n : Offer) → IsUnread es o → n.server ≡ o.server → n.share ≡ o.share
    → n.front.items ≡ o.front.items → n.back.items ≡ o.back.items → n.wanted.items ≡ o.wanted.items → n.judged ≡ o.judged → n.pieces ≡ o.pieces → IsReading cap es todo n (Beginning Start)
reads_first cap es todo o n is server share front back wanted judged pieces = record {
  front = [];
  back = [];
  led = (refl, refl);
  front_at = subst (λ (l : List ℕ). AreReadAt es (key_of n) l []) (sym (front ∙ is.front)) tt;
  back_at = subst (λ (l : List ℕ). AreReadAt es (key_of n) l []) (sym (back ∙ is.back)) tt;
  judged = subst (IsJudgedBy cap [] [] (Beginning Start)) (sym judged) (is.judged cap);
  pieces = subst (HasPieces [] []) (sym pieces) is.pieces;
  wanted = λ i w e. absurd (none-some w (ap (λ (l : List Wanted). slice_get l i) (sym (wanted ∙ is.wanted)) ∙ e));
  only = λ i x at about. absurd (contains_none i (is.none i x at (subst (λ (k : Pair). IsAbout k x) key about)));
}
  where
    key : key_of n ≡ key_of o
    key = ap (λ s. (s, n.share)) server ∙ ap (λ i. (o.server, i)) share

-- ---- what is found of a share

-- what is found of a share that is not good is found of it however it is kept
pub ended_same : (cap : VerifyCapValue) (es : List Request) (o n : Offer) (v : Verdict) → (v ≡ verdicts.Good → ⊥) → key_of n ≡ key_of o → IsEnded cap es o v → IsEnded cap es n v
ended_same cap es o n v bad key is = record {
  verdict = subst (λ (k : Pair). IsVerdict cap k.1 (settled_of es k.0 k.1) v) (sym key) is.verdict;
  held = λ good. absurd (bad good);
  quiet = λ i r at about. is.quiet i r at (subst (λ (k : Pair). IsAbout k r) key about);
}

-- and what is found of one, once that is noted
ended_as : (cap : VerifyCapValue) (es : List Request) (o n : Offer) (v : Verdict) → IsEndedBy v o n → IsEnded cap es o v → IsEnded cap es n v
ended_as cap es o n v by is = record {
  verdict = subst (λ (k : Pair). IsVerdict cap k.1 (settled_of es k.0 k.1) v) (sym key) is.verdict;
  held = λ good. held_as good (is.held good);
  quiet = λ i r at about. is.quiet i r at (subst (λ (k : Pair). IsAbout k r) key about);
}
  where
    key : key_of n ≡ key_of o
    key = ap (λ s. (s, n.share)) by.server ∙ ap (λ i. (o.server, i)) by.share

    held_as : v ≡ verdicts.Good → IsHeld es o → IsHeld es n
    held_as good h = record {
      front = h.front;
      back = h.back;
      front_at = subst (λ (k : Pair). AreReadAt es k n.front.items h.front) (sym key) (subst (λ (x : Vec ℕ Global). AreReadAt es (key_of o) x.items h.front) (sym by.front) h.front_at);
      back_at = subst (λ (k : Pair). AreReadAt es k n.back.items h.back) (sym key) (subst (λ (x : Vec ℕ Global). AreReadAt es (key_of o) x.items h.back) (sym by.back) h.back_at);
      pieces = subst (HasPieces h.front h.back) (sym (by.pieces good)) h.pieces;
      whole = subst (λ (k : Pair). IsWhole (brought_of (settled_of es k.0 k.1)) (joined h.front ++ joined h.back)) (sym key) h.whole;
    }

pub same_key : (o n : Offer) (v : Verdict) → IsEndedBy v o n → key_of n ≡ key_of o
same_key o n v by = ap (λ s. (s, n.share)) by.server ∙ ap (λ i. (o.server, i)) by.share

-- ---- what came for the pieces

come_quiet : (todo : List ℕ) (q : Request) (position : ℕ) (c : Came) → (c ≡ Waits → ⊥) → HasCome todo q position c → is_outstanding q.outcome ≡ false
come_quiet todo q position Waits some is = absurd (some refl)
come_quiet todo q position (Bytes v) some is = answered_quiet q.outcome v.items is
come_quiet todo q position Nothing some is = is.0

waits_not_bytes : (c : Came) (v : Vec ℕ Global) → c ≡ Waits → c ≡ Bytes v → ⊥
waits_not_bytes c v e f = clash (sym e ∙ f)
  where
    clash : Waits ≡ Bytes v → ⊥
    clash g = cc

pub none_waits_if : (wanted : List Wanted) → AllCame wanted → NoneWaits wanted
none_waits_if wanted all any = let came = all any.0 any.1 any.2 in waits_not_bytes any.1.came came.0 any.3 came.1

-- once the first is read
pub all_came_behind : (first : Wanted) (rest wanted : List Wanted) → wanted ≡ first ∷ rest → AllCame wanted → AllCame rest
all_came_behind first rest wanted is all i w e = all (suc i) w (ap (λ (l : List Wanted). slice_get l (suc i)) is ∙ e)

pub waits_behind : (first : Wanted) (rest wanted : List Wanted) (v : Vec ℕ Global) → wanted ≡ first ∷ rest → first.came ≡ Bytes v → AnyWaits wanted → AnyWaits rest
waits_behind first rest wanted v is came any = by any.0 (ap (λ (l : List Wanted). slice_get l any.0) (sym is) ∙ any.2)
  where
    by : (i : ℕ) → slice_get (first ∷ rest) i ≡ Some any.1 → AnyWaits rest
    by zero e = absurd (waits_not_bytes first.came v (ap (λ (w : Wanted). w.came) (same_Some first any.1 e) ∙ any.3) came)
    by (suc i) e = (i, any.1, e, any.3)

module _ (cap : VerifyCapValue) (es : List Request) (todo : List ℕ) (o : Offer) (r : readings.ShareReading) (is : IsReading cap es todo o r) where
  abbrev pub reads : List Settled
  reads = settled_of es o.server o.share

  -- what led to the reading was brought
  old_brought : (b : Brought) → Contains (is.front ++ is.back) b → Contains (brought_of reads) b
  old_brought b at = elim (Contains-append_cases is.front is.back b at) [
    | inl here ↦ by (reads_have es (key_of o) o.front.items is.front b is.front_at here).2
    | inr later ↦ by (reads_have es (key_of o) o.back.items is.back b is.back_at later).2
  ]
    where
      by : {i : ℕ} → IsReadAt es (key_of o) i b → Contains (brought_of reads) b
      by {i} read =
          let s = full_read b.0 (length b.1) b.1 in
          let told = tells read.request.asked read.request.outcome o.share b.0 (length b.1) b.1 read.asked read.answer in
          let among : Contains reads s =
          settled_has es (key_of o) i read.request s read.there (about_by (key_of o) read.request b.0 (length b.1) read.server read.asked)
          (subst (λ (l : List Settled). Contains l s) (sym told) (contains_head s [])) in
          brought_has reads s b.1 among refl

  -- the next piece may be asked for
  pub safe_ahead : (n : ℕ) → n ≡ length o.wanted.items → IsAhead r n → Contains (offered_pairs cap.total es) (key_of o) → IsSafeToAsk cap es (key_of o) (offset_ahead r n) (length_ahead r n)
  safe_ahead n many ahead listed = record {
    apart = apart_from;
    asked = more_asked cap (is.front ++ is.back) (brought_of reads) (offset_ahead r n) (length_ahead r n) old_brought (asked_ahead cap is.front is.back r n is.led ahead);
    listed = listed;
  }
    where
      apart_from : (i : ℕ) (x : Request) (from count : ℕ) → slice_get es i ≡ Some x → IsAbout (key_of o) x → x.asked ≡ Reading o.share from count
          → (from + count ≤ offset_ahead r n) ⊎ (offset_ahead r n + length_ahead r n ≤ from)
      apart_from i x from count at about asks = by (one_of cap es todo o r is i x at about)
        where
          as_read : (b : Brought) → x.asked ≡ Reading o.share b.0 (length b.1) → AsksNone b (offset_ahead r n) (length_ahead r n)
              → (from + count ≤ offset_ahead r n) ⊎ (offset_ahead r n + length_ahead r n ≤ from)
          as_read b same none =
              let reading_is : Reading o.share b.0 (length b.1) ≡ Reading o.share from count = sym same ∙ asks in
              let offset_is : b.0 ≡ from = ap offset_in reading_is in
              let len_is : length b.1 ≡ count = ap count_in reading_is in
              elim none [
                | inl low ↦ inl (omega (arith, low, offset_is, len_is))
                | inr high ↦ inr (omega (arith, high, offset_is))
              ]

          by : IsOneOf cap es todo o r is i → (from + count ≤ offset_ahead r n) ⊎ (offset_ahead r n + length_ahead r n ≤ from)
          by (brought b among read) =
              as_read b (ap (λ (y : Request). y.asked) (same_Some x read.request (sym at ∙ read.there)) ∙ read.asked) (none_ahead cap is.front is.back r n is.led ahead b among)
          by (sought j w e here) =
              let p = is.wanted j w e in
              let same : p.request ≡ x = same_Some p.request x (sym p.there ∙ ap (slice_get es) here ∙ at) in
              let reading_is : Reading o.share (offset_ahead r j) (length_ahead r j) ≡ Reading o.share from count = sym p.asked ∙ ap (λ (y : Request). y.asked) same ∙ asks in
              let offset_is : offset_ahead r j ≡ from = ap offset_in reading_is in
              let len_is : length_ahead r j ≡ count = ap count_in reading_is in
              let below : j < n = omega (arith, many, slice_get_within o.wanted.items j w e) in
              inl (omega (arith, spans_apart r j n ahead below, offset_is, len_is))

  -- and it is asked at this moment
  pub reads_more : (n : Offer) (now : ℕ) → IsAhead r (length o.wanted.items) → IsWanting (length es) o n
      → IsReading cap (es ++ span_request o.server o.share (offset_ahead r (length o.wanted.items)) (length_ahead r (length o.wanted.items)) now ∷ []) todo n r
  reads_more n now ahead more = record {
    front = is.front;
    back = is.back;
    led = is.led;
    front_at = subst (λ (k : Pair). AreReadAt (es ++ new ∷ []) k n.front.items is.front) (sym key)
        (subst (λ (x : Vec ℕ Global). AreReadAt (es ++ new ∷ []) (key_of o) x.items is.front) (sym more.front) (reads_push es new (key_of o) o.front.items is.front is.front_at));
    back_at = subst (λ (k : Pair). AreReadAt (es ++ new ∷ []) k n.back.items is.back) (sym key)
        (subst (λ (x : Vec ℕ Global). AreReadAt (es ++ new ∷ []) (key_of o) x.items is.back) (sym more.back) (reads_push es new (key_of o) o.back.items is.back is.back_at));
    judged = subst (IsJudgedBy cap is.front is.back r) (sym more.judged) is.judged;
    pieces = subst (HasPieces is.front is.back) (sym more.pieces) is.pieces;
    wanted = λ i w e. subst (λ (k : Pair). IsPiece (es ++ new ∷ []) todo k r i w) (sym key) (wanted_more i w (ap (λ (l : List Wanted). slice_get l i) (sym more.wanted) ∙ e));
    only = λ i x at about. subst (λ (l : List ℕ). Contains l i) (sym positions) (only_more i x at (subst (λ (k : Pair). IsAbout k x) key about));
  }
    where
      many : ℕ
      many = length o.wanted.items

      new : Request
      new = span_request o.server o.share (offset_ahead r many) (length_ahead r many) now

      added : Wanted
      added = record { position = length es; came = Waits }

      key : key_of n ≡ key_of o
      key = ap (λ s. (s, n.share)) more.server ∙ ap (λ i. (o.server, i)) more.share

      wanted_more : (i : ℕ) (w : Wanted) → slice_get (o.wanted.items ++ added ∷ []) i ≡ Some w → IsPiece (es ++ new ∷ []) todo (key_of o) r i w
      wanted_more i w e = elim (get_pushed o.wanted.items added w i e) [
        | inl before ↦ piece_push es new todo (key_of o) r i w (is.wanted i w before)
        | inr last ↦ subst (λ (x : Wanted). IsPiece (es ++ new ∷ []) todo (key_of o) r i x) last.1
            (subst (λ m. IsPiece (es ++ new ∷ []) todo (key_of o) r m added) (sym last.0)
            (record { ahead = ahead; request = new; there = get_last es new; server = refl; asked = refl; came = inl refl }))
      ]

      positions : positions_of n.wanted.items ++ (n.front.items ++ n.back.items) ≡ (positions_of o.wanted.items ++ length es ∷ []) ++ (o.front.items ++ o.back.items)
      positions =
          ap (λ (l : List Wanted). positions_of l ++ (n.front.items ++ n.back.items)) more.wanted
          ∙ ap (λ (l : List ℕ). l ++ (n.front.items ++ n.back.items)) (map-append (λ (w : Wanted). w.position) o.wanted.items (added ∷ []))
          ∙ ap (λ (x : Vec ℕ Global). (positions_of o.wanted.items ++ length es ∷ []) ++ (x.items ++ n.back.items)) more.front
          ∙ ap (λ (x : Vec ℕ Global). (positions_of o.wanted.items ++ length es ∷ []) ++ (o.front.items ++ x.items)) more.back

      only_more : (i : ℕ) (x : Request) → slice_get (es ++ new ∷ []) i ≡ Some x → IsAbout (key_of o) x → Contains ((positions_of o.wanted.items ++ length es ∷ []) ++ (o.front.items ++ o.back.items)) i
      only_more i x at about = elim (get_pushed es new x i at) [
        | inl before ↦ more_old false (positions_of o.wanted.items) (o.front.items ++ o.back.items) (length es) i (is.only i x before about)
        | inr pushed ↦ subst (Contains ((positions_of o.wanted.items ++ length es ∷ []) ++ (o.front.items ++ o.back.items))) (sym pushed.0)
            (more_new false (positions_of o.wanted.items) (o.front.items ++ o.back.items) (length es))
      ]

  -- ---- none of its pieces waits

  pub all_quiet : NoneWaits o.wanted.items → (i : ℕ) (x : Request) → slice_get es i ≡ Some x → IsAbout (key_of o) x → is_outstanding x.outcome ≡ false
  all_quiet none i x at about = by (one_of cap es todo o r is i x at about)
    where
      by : IsOneOf cap es todo o r is i → is_outstanding x.outcome ≡ false
      by (brought b among read) =
          ap (λ (y : Request). is_outstanding y.outcome) (same_Some x read.request (sym at ∙ read.there)) ∙ answered_quiet read.request.outcome b.1 read.answer
      by (sought j w e here) =
          let p = is.wanted j w e in
          let same : x ≡ p.request = same_Some x p.request (sym at ∙ ap (slice_get es) (sym here) ∙ p.there) in
          ap (λ (y : Request). is_outstanding y.outcome) same ∙ come_quiet todo p.request w.position w.came (λ waits. none (j, w, e, waits)) p.came

  -- and for one no bytes came
  pub is_lost : NoneWaits o.wanted.items → (j : ℕ) (w : Wanted) → slice_get o.wanted.items j ≡ Some w → w.came ≡ Nothing → IsEnded cap es o verdicts.Lost
  is_lost none j w e nothing = record {
    verdict = (
      lost,
      settled_has es (key_of o) w.position p.request lost p.there (piece_about es todo (key_of o) r j w p.request p p.there)
          (subst (λ (l : List Settled). Contains l lost) (sym told) (contains_head lost [])),
      refl,
    );
    held = λ e. absurd cc;
    quiet = all_quiet none;
  }
    where
      p : IsPiece es todo (key_of o) r j w
      p = is.wanted j w e

      come : HasCome todo p.request w.position Nothing
      come = subst (HasCome todo p.request w.position) nothing p.came

      lost : Settled
      lost = record { offset = offset_ahead r j; len = length_ahead r j; answer = None }

      told : settled_in p.request.asked p.request.outcome ≡ lost ∷ []
      told = ap (λ (a : Asked). settled_in a p.request.outcome) p.asked ∙ tells_lost p.request.outcome o.share (offset_ahead r j) (length_ahead r j) come.0 come.1

  -- ---- the next piece is read

  module _ (first : Wanted) (rest : List Wanted) (wanted_is : o.wanted.items ≡ first ∷ rest) (v : Vec ℕ Global) (came : first.came ≡ Bytes v) where
    piece : IsPiece es todo (key_of o) r 0 first
    piece = is.wanted 0 first (ap (λ (l : List Wanted). slice_get l 0) wanted_is)

    abbrev q : Request
    q = piece.request

    answer_is : q.outcome ≡ Answered (Data v.items)
    answer_is = subst (HasCome todo q first.position) came piece.came

    next_asked : q.asked ≡ Reading o.share (reading.next_offset r) (reading.next_length r)
    next_asked = piece.asked ∙ ap (λ n. Reading o.share n (length_ahead r 0)) (offset_first r) ∙ ap (Reading o.share (reading.next_offset r)) (length_first r)

    abbrev pub last_read : Settled
    last_read = record { offset = reading.next_offset r; len = reading.next_length r; answer = Some v.items }

    told_last : settled_in q.asked q.outcome ≡ last_read ∷ []
    told_last = tells q.asked q.outcome o.share (reading.next_offset r) (reading.next_length r) v.items next_asked answer_is

    last_among : Contains reads last_read
    last_among =
        settled_has es (key_of o) first.position q last_read piece.there (piece_about es todo (key_of o) r 0 first q piece piece.there)
        (subst (λ (l : List Settled). Contains l last_read) (sym told_last) (contains_head last_read []))

    has_led : HasLed cap reads r v.items
    has_led = record { front = is.front; back = is.back; led = is.led; among = old_brought; last = last_among }

    -- bytes came for each of the others
    module _ (all : AllCame o.wanted.items) where
      pub all_answered : AreAnswered reads
      all_answered s at =
          let by = settled_from es (key_of o) s at in
          go by (one_of cap es todo o r is by.position by.request by.there by.about)
        where
          go : (by : IsSettledBy es (key_of o) s) → IsOneOf cap es todo o r is by.position → (b : List ℕ) × (s.answer ≡ Some b)
          go by (brought b among read) =
              let same : by.request ≡ read.request = same_Some by.request read.request (sym by.there ∙ read.there) in
              let told =
              tells by.request.asked by.request.outcome o.share b.0 (length b.1) b.1 (ap (λ (x : Request). x.asked) same ∙ read.asked) (ap (λ (x : Request). x.outcome) same ∙ read.answer) in
              (b.1, ap (λ (x : Settled). x.answer) (sym (only_one s (full_read b.0 (length b.1) b.1) (settled_in by.request.asked by.request.outcome) told by.has)))
          go by (sought j w e here) =
              let p = is.wanted j w e in
              let text = all j w e in
              let answered : p.request.outcome ≡ Answered (Data text.0.items) = subst (HasCome todo p.request w.position) text.1 p.came in
              let same : by.request ≡ p.request = same_Some by.request p.request (sym by.there ∙ ap (slice_get es) (sym here) ∙ p.there) in
              let told =
              tells by.request.asked by.request.outcome o.share (offset_ahead r j) (length_ahead r j) text.0.items (ap (λ (x : Request). x.asked) same ∙ p.asked) (ap (λ (x : Request). x.outcome) same ∙ answered) in
              (text.0.items, ap (λ (x : Settled). x.answer) (sym (only_one s (full_read (offset_ahead r j) (length_ahead r j) text.0.items) (settled_in by.request.asked by.request.outcome) told by.has)))

      -- the share is not read on
      pub is_stopped : (check : Check) → reading.IsStop cap r v.items check → IsEnded cap es o (verdicts.Corrupt check)
      is_stopped check stop = record {
        verdict = inl (record {
          answered = all_answered;
          reading = r;
          bytes = v.items;
          led = has_led;
          stop = stop;
        });
        held = λ e. absurd cc;
        quiet = all_quiet (none_waits_if o.wanted.items all);
      }

    -- as many came as were asked for
    module _ (long : length v.items ≡ reading.next_length r) where
      new_read : IsReadAt es (key_of o) first.position (reading.next_offset r, v.items)
      new_read = record {
        request = q;
        there = piece.there;
        server = piece.server;
        asked = next_asked ∙ ap (λ n. Reading o.share (reading.next_offset r) n) (sym long);
        answer = answer_is;
      }

      abbrev pub more_reads : List Brought
      more_reads = more_front r v.items is.front ++ more_back r v.items is.back

      -- the share is read whole: no piece is behind this one
      module _ (whole : reading.Advances cap r v.items Whole) where
        alone : (j : ℕ) (w : Wanted) → slice_get o.wanted.items j ≡ Some w → w ≡ first
        alone zero w e = same_Some w first (sym e ∙ ap (λ (l : List Wanted). slice_get l 0) wanted_is)
        alone (suc j) w e = absurd (none_behind cap r v.items j whole (is.wanted (suc j) w e).ahead)

        none_left : NoneWaits o.wanted.items
        none_left any = waits_not_bytes first.came v (ap (λ (w : Wanted). w.came) (sym (alone any.0 any.1 any.2)) ∙ any.3) came

        -- each read of the share is one that led to the reading, or the last
        data IsKnown (s : Settled) : Type 0 where
          before : (b : Brought) → Contains (is.front ++ is.back) b → s ≡ full_read b.0 (length b.1) b.1 → IsKnown s
          newest : s ≡ last_read → IsKnown s

        known : (s : Settled) → Contains reads s → IsKnown s
        known s at =
            let by = settled_from es (key_of o) s at in
            go by (one_of cap es todo o r is by.position by.request by.there by.about)
          where
            go : (by : IsSettledBy es (key_of o) s) → IsOneOf cap es todo o r is by.position → IsKnown s
            go by (brought b among read) =
                let same : by.request ≡ read.request = same_Some by.request read.request (sym by.there ∙ read.there) in
                let told =
                tells by.request.asked by.request.outcome o.share b.0 (length b.1) b.1 (ap (λ (x : Request). x.asked) same ∙ read.asked) (ap (λ (x : Request). x.outcome) same ∙ read.answer) in
                before b among (sym (only_one s (full_read b.0 (length b.1) b.1) (settled_in by.request.asked by.request.outcome) told by.has))
            go by (sought j w e here) =
                let same : by.request ≡ q = same_Some by.request q (sym by.there ∙ ap (slice_get es) (sym here ∙ ap (λ (x : Wanted). x.position) (alone j w e)) ∙ piece.there) in
                let told : settled_in by.request.asked by.request.outcome ≡ last_read ∷ [] = ap (λ (x : Request). settled_in x.asked x.outcome) same ∙ told_last in
                newest (sym (only_one s last_read (settled_in by.request.asked by.request.outcome) told by.has))

        all_full : AreFull reads
        all_full s at = go (known s at)
          where
            go : IsKnown s → (b : List ℕ) × (s.answer ≡ Some b) × (length b ≡ s.len)
            go (before b among e) = (b.1, ap (λ (x : Settled). x.answer) e, ap (λ (x : Settled). x.len) (sym e))
            go (newest e) = (v.items, ap (λ (x : Settled). x.answer) e, long ∙ ap (λ (x : Settled). x.len) (sym e))

        more_brought : (b : Brought) → Contains more_reads b → Contains (brought_of reads) b
        more_brought b at = elim (more_cases (reading.is_behind r) is.front is.back (reading.next_offset r, v.items) b at) [
          | inl old ↦ old_brought b old
          | inr new ↦ subst (Contains (brought_of reads)) new (brought_has reads last_read v.items last_among refl)
        ]

        brought_more : (b : Brought) → Contains (brought_of reads) b → Contains more_reads b
        brought_more b at = let by = brought_from reads b at in go by (known by.read by.among)
          where
            go : (by : IsBroughtBy reads b) → IsKnown by.read → Contains more_reads b
            go by (before c among e) =
                let offset_is : c.0 ≡ b.0 = ap (λ (x : Settled). x.offset) (sym e) ∙ by.offset in
                let bytes_are : c.1 ≡ b.1 = same_Some c.1 b.1 (ap (λ (x : Settled). x.answer) (sym e) ∙ by.answer) in
                let same : c ≡ b = ap (λ n. (n, c.1)) offset_is ∙ ap (λ (l : List ℕ). (b.0, l)) bytes_are in
                subst (Contains more_reads) same (more_old (reading.is_behind r) is.front is.back (reading.next_offset r, v.items) c among)
            go by (newest e) =
                let offset_is : reading.next_offset r ≡ b.0 = ap (λ (x : Settled). x.offset) (sym e) ∙ by.offset in
                let bytes_are : v.items ≡ b.1 = same_Some v.items b.1 (ap (λ (x : Settled). x.answer) (sym e) ∙ by.answer) in
                let same : (reading.next_offset r, v.items) ≡ b = ap (λ n. (n, v.items)) offset_is ∙ ap (λ (l : List ℕ). (b.0, l)) bytes_are in
                subst (Contains more_reads) same (more_new (reading.is_behind r) is.front is.back (reading.next_offset r, v.items))

        is_joined : IsWhole (brought_of reads) (joined more_reads)
        is_joined = same_whole more_reads (brought_of reads) (joined more_reads) more_brought brought_more (end_whole cap is.front is.back r v.items is.led whole)

        judged : (text : List ℕ) (verdict : Verdict) → IsWhole (brought_of reads) text → IsJudged cap o.share text verdict → IsVerdict cap o.share reads verdict
        judged text verdicts.Good all held = record { bytes = text; full = all_full; whole = all; sound = held }
        judged text (verdicts.Corrupt check) all held = inr (record { reading = r; last_bytes = v.items; led = has_led; ends = whole; bytes = text; full = all_full; whole = all; fault = held.0; first = held.1; check_is = held.2 })
        judged text verdicts.Lost all held = absurd held

      -- the same share, with one more request that brought its bytes
      module _ (n : Offer) (kept : IsKeptBy r first.position v.items o n) where
        pub kept_key : key_of n ≡ key_of o
        kept_key = ap (λ m. (m, n.share)) kept.server ∙ ap (λ m. (o.server, m)) kept.share

        front_kept : AreReadAt es (key_of o) n.front.items (more_front r v.items is.front)
        front_kept = subst (λ (l : List ℕ). AreReadAt es (key_of o) l (more_front r v.items is.front)) (sym kept.front) (by (reading.is_behind r))
          where
            by : (b : Bool) → AreReadAt es (key_of o) (cond b o.front.items (o.front.items ++ first.position ∷ [])) (cond b is.front (is.front ++ (reading.next_offset r, v.items) ∷ []))
            by true = is.front_at
            by false = reads_snoc es (key_of o) o.front.items is.front first.position (reading.next_offset r, v.items) is.front_at new_read

        back_kept : AreReadAt es (key_of o) n.back.items (more_back r v.items is.back)
        back_kept = subst (λ (l : List ℕ). AreReadAt es (key_of o) l (more_back r v.items is.back)) (sym kept.back) (by (reading.is_behind r))
          where
            by : (b : Bool) → AreReadAt es (key_of o) (cond b (o.back.items ++ first.position ∷ []) o.back.items) (cond b (is.back ++ (reading.next_offset r, v.items) ∷ []) is.back)
            by true = reads_snoc es (key_of o) o.back.items is.back first.position (reading.next_offset r, v.items) is.back_at new_read
            by false = is.back_at

        pieces_kept : HasPieces (more_front r v.items is.front) (more_back r v.items is.back) n.pieces
        pieces_kept = record {
          front_is = λ keeps. (let had = sym kept.pieces.keeps ∙ keeps in
              kept.pieces.front had ∙ more_joined (reading.is_behind r) o.pieces.front.items v.items is.front (reading.next_offset r) (is.pieces.front_is had));
          back_is = λ keeps. (let had = sym kept.pieces.keeps ∙ keeps in
              kept.pieces.back had ∙ less_joined (reading.is_behind r) o.pieces.back.items v.items is.back (reading.next_offset r) (is.pieces.back_is had));
        }

        -- its verdict is found
        pub is_judged : (verdict : Verdict) → reading.Advances cap r v.items Whole
            → IsJudged cap o.share (joined (more_front r v.items is.front) ++ joined (more_back r v.items is.back)) verdict → IsEnded cap es n verdict
        is_judged verdict a found = record {
          verdict = subst (λ (key : Pair). IsVerdict cap key.1 (settled_of es key.0 key.1) verdict) (sym kept_key)
              (judged a (joined (more_front r v.items is.front) ++ joined (more_back r v.items is.back)) verdict whole found);
          held = λ good. record {
            front = more_front r v.items is.front;
            back = more_back r v.items is.back;
            front_at = subst (λ (key : Pair). AreReadAt es key n.front.items (more_front r v.items is.front)) (sym kept_key) front_kept;
            back_at = subst (λ (key : Pair). AreReadAt es key n.back.items (more_back r v.items is.back)) (sym kept_key) back_kept;
            pieces = pieces_kept;
            whole = subst (λ (key : Pair). IsWhole (brought_of (settled_of es key.0 key.1)) (joined (more_front r v.items is.front) ++ joined (more_back r v.items is.back))) (sym kept_key) whole;
          };
          quiet = λ i x at about. all_quiet (none_left a) i x at (subst (λ (key : Pair). IsAbout key x) kept_key about);
        }
          where
            whole : IsWhole (brought_of reads) (joined (more_front r v.items is.front) ++ joined (more_back r v.items is.back))
            whole = subst (IsWhole (brought_of reads)) (joined_both (more_front r v.items is.front) (more_back r v.items is.back)) (is_joined a)

        -- it is read on
        module _ (next : readings.ShareReading) (a : reading.Advances cap r v.items (Next next)) (n_wanted : n.wanted.items ≡ rest)
            (judged_on : IsJudgedBy cap (more_front r v.items is.front) (more_back r v.items is.back) next n.judged) where
          wanted_behind : (i : ℕ) (w : Wanted) → slice_get n.wanted.items i ≡ Some w → IsPiece es todo (key_of o) next i w
          wanted_behind i w e =
              let p = is.wanted (suc i) w (ap (λ (l : List Wanted). slice_get l (suc i)) wanted_is ∙ ap (λ (l : List Wanted). slice_get l i) (sym n_wanted) ∙ e) in
              let ahead = next_ahead cap r next v.items i a p.ahead in
              record {
                ahead = ahead.ahead;
                request = p.request;
                there = p.there;
                server = p.server;
                asked = p.asked ∙ ap (λ m. Reading o.share m (length_ahead r (suc i))) (sym ahead.offset) ∙ ap (Reading o.share (offset_ahead next i)) (sym ahead.long);
                came = p.came;
              }

          only_kept : (i : ℕ) (x : Request) → slice_get es i ≡ Some x → IsAbout (key_of o) x → Contains (positions_of n.wanted.items ++ (n.front.items ++ n.back.items)) i
          only_kept i x at about =
              subst (λ (l : List ℕ). Contains l i) (sym lists)
              (elim (contains_cases first.position i (positions_of rest ++ (o.front.items ++ o.back.items)) (subst (λ (l : List Wanted). Contains (positions_of l ++ (o.front.items ++ o.back.items)) i) wanted_is (is.only i x at about))) [
                | inl here ↦ subst (Contains (positions_of rest ++ more)) here
                    (Contains-append_right (positions_of rest) more first.position (more_new (reading.is_behind r) o.front.items o.back.items first.position))
                | inr later ↦ elim (Contains-append_cases (positions_of rest) (o.front.items ++ o.back.items) i later) [
                  | inl ahead ↦ Contains-append_left (positions_of rest) more i ahead
                  | inr old ↦ Contains-append_right (positions_of rest) more i (more_old (reading.is_behind r) o.front.items o.back.items first.position i old)
                ]
              ])
            where
              more_before : List ℕ
              more_before = cond (reading.is_behind r) o.front.items (o.front.items ++ first.position ∷ [])

              more_behind : List ℕ
              more_behind = cond (reading.is_behind r) (o.back.items ++ first.position ∷ []) o.back.items

              more : List ℕ
              more = more_before ++ more_behind

              lists : positions_of n.wanted.items ++ (n.front.items ++ n.back.items) ≡ positions_of rest ++ more
              lists =
                  ap (λ (l : List Wanted). positions_of l ++ (n.front.items ++ n.back.items)) n_wanted
                  ∙ ap (λ (l : List ℕ). positions_of rest ++ (l ++ n.back.items)) kept.front
                  ∙ ap (λ (l : List ℕ). positions_of rest ++ (more_before ++ l)) kept.back

          pub goes_on : IsReading cap es todo n next
          goes_on = record {
            front = more_front r v.items is.front;
            back = more_back r v.items is.back;
            led = go_on cap is.front is.back r next v.items is.led a;
            front_at = subst (λ (key : Pair). AreReadAt es key n.front.items (more_front r v.items is.front)) (sym kept_key) front_kept;
            back_at = subst (λ (key : Pair). AreReadAt es key n.back.items (more_back r v.items is.back)) (sym kept_key) back_kept;
            judged = judged_on;
            pieces = pieces_kept;
            wanted = λ i w e. subst (λ (key : Pair). IsPiece es todo key next i w) (sym kept_key) (wanted_behind i w e);
            only = λ i x at about. only_kept i x at (subst (λ (key : Pair). IsAbout key x) kept_key about);
          }

-- ---- what comes of the piece that was read

module _ (cap : VerifyCapValue) (r : readings.ShareReading) (o n : Offer) where
  pub taken_next : (next : readings.ShareReading) → IsTakenFirst cap r (found.Next next) o n → (es : List Request) (todo : List ℕ) → IsReading cap es todo o r → IsReading cap es todo n next
  taken_next next t es todo is =
      goes_on cap es todo o r is t.first n.wanted.items t.wanted t.bytes t.came (advances_long cap r t.bytes.items (Next next) t.taken.comes) n t.taken.kept next t.taken.comes refl
      (t.taken.judged is.front is.back is.led is.judged)

  pub taken_whole : (verdict : Verdict) (e : Offer) → IsTakenFirst cap r (found.Whole verdict) o n → IsEndedBy verdict n e → (es : List Request) (todo : List ℕ) → IsReading cap es todo o r → IsEnded cap es e verdict
  taken_whole verdict e t by es todo is =
      ended_as cap es n e verdict by
      (is_judged cap es todo o r is t.first n.wanted.items t.wanted t.bytes t.came (advances_long cap r t.bytes.items Whole t.taken.comes) n t.taken.kept verdict t.taken.comes
      (t.taken.judged is.front is.back is.led is.judged))

  pub taken_stopped : (check : Check) (e : Offer) → IsTakenFirst cap r (found.Stopped check) o n → AllCame o.wanted.items → IsEndedBy (verdicts.Corrupt check) n e
      → (es : List Request) (todo : List ℕ) → IsReading cap es todo o r → IsEnded cap es e (verdicts.Corrupt check)
  taken_stopped check e t all by es todo is =
      ended_same cap es o e (verdicts.Corrupt check) (λ h. cc)
      (same_key n e (verdicts.Corrupt check) by ∙ (ap (λ m. (m, n.share)) t.taken.kept.server ∙ ap (λ m. (o.server, m)) t.taken.kept.share))
      (is_stopped cap es todo o r is t.first n.wanted.items t.wanted t.bytes t.came all check t.taken.comes)

-- a piece that is as long as was asked for stops a reading only where no other is asked for
pub stops_alone : (cap : VerifyCapValue) (es : List Request) (todo : List ℕ) (o : Offer) (r : readings.ShareReading) (first : Wanted) (rest : List Wanted) (v : Vec ℕ Global) (check : Check)
    → IsReading cap es todo o r → o.wanted.items ≡ first ∷ rest → first.came ≡ Bytes v → length v.items ≡ reading.next_length r → reading.IsStop cap r v.items check → AllCame o.wanted.items
stops_alone cap es todo o (Remaining r) first rest v check is wanted came long stop = absurd (stop.0 long)
stops_alone cap es todo o (Beginning b) first rest v check is wanted came long stop = all
  where
    all : AllCame o.wanted.items
    all zero w e = (v, ap (λ (x : Wanted). x.came) (same_Some w first (sym e ∙ ap (λ (l : List Wanted). slice_get l 0) wanted)) ∙ came)
    all (suc i) w e = absurd (omega (arith, (is.wanted (suc i) w e).ahead))
