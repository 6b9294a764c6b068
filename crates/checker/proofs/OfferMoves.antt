-- How the reading of one share goes on.
use Rattle.std.proofs.Common.{◌≡◌, ℕ, suc, true, false, List, [], ◌∷◌, ◌++◌, Some, ap, refl, sym, subst, ◌∙◌, inl, inr, ◌⊎◌}
use Rattle.std.specs.Prelude.{Contains, slice_get}
use Rattle.std.proofs.lemmas.List.Elements.{Contains-append_left, Contains-append_right, Contains-append_cases}
use Rattle.std.proofs.lemmas.Option.{same_Some}
use Rattle.lemmas.proofs.Members.{contains_cases, contains_head, contains_none, contains_tail}
use Rattle.lemmas.proofs.Positions.{get_pushed}
use Rattle.cap_text.specs.Cap.{VerifyCapValue}
use Rattle.placement.specs.Matching.{Pair}
use Rattle.wire.specs.declared.message.Body.TheVariants.{Data}
use Rattle.request_record.specs.declared.requests.Outcome.{Outcome}
use Rattle.request_record.specs.declared.requests.Outcome.TheVariants.{Answered}
use Rattle.request_record.specs.declared.requests.Request.{Request}
use Rattle.request_record.specs.Record.{is_outstanding}
use Rattle.share_reading.specs.OpeningReads.{Brought}
use Rattle.share_reading.specs.Verdict.{IsVerdict, Settled, brought_of}
use Rattle.share_reading.specs.Whole.{IsWhole, joined}
use Rattle.share_reading.specs.declared.reading.ShareReading as readings
use Rattle.checker.specs.Offers.{key_of}
use Rattle.checker.specs.Shares.{settled_of}
use Rattle.checker.specs.Book.{AreReadAt, HasCome, IsAbout, IsAt, IsHeld, IsOffer, IsPiece, IsReadAt, IsReadOnlyAt, IsReading}
use Rattle.checker.specs.Wanted.{positions_of}
use Rattle.checker.specs.declared.wanted.Came.{Came}
use Rattle.checker.specs.declared.wanted.Came.TheVariants.{Waits, Bytes, Nothing}
use Rattle.checker.specs.declared.wanted.Wanted.{Wanted}
use Rattle.checker.specs.declared.offers.Offer.{Offer}
use Rattle.checker.specs.declared.offers.Stage.{Stage}
use Rattle.checker.specs.declared.offers.Stage.TheVariants.{Waiting, Read, Ended}
use Rattle.checker.proofs.Entries.{GoesTo, about_by, about_same, get_kept, settled_push, settled_stays, was_at}

-- what was read at one of these positions
read_among : (es : List Request) (key : Pair) (positions : List ℕ) (reads : List Brought) (i : ℕ) → AreReadAt es key positions reads → Contains positions i
    → (b : Brought) × Contains reads b × IsReadAt es key i b
read_among es key [] [] i are at = absurd (contains_none i at)
read_among es key [] (b ∷ bs) i are at = absurd are
read_among es key (p ∷ ps) [] i are at = absurd are
read_among es key (p ∷ ps) (b ∷ bs) i are at = elim (contains_cases p i ps at) [
  | inl here ↦ (b, contains_head b bs, subst (λ n. IsReadAt es key n b) here are.0)
  | inr later ↦ (let found = read_among es key ps bs i are.1 later in (found.0, contains_tail b found.0 bs found.1, found.2))
]

-- ---- as the record goes on

pub answered_quiet : (o : Outcome) (bytes : List ℕ) → o ≡ Answered (Data bytes) → is_outstanding o ≡ false
answered_quiet o bytes is = ap is_outstanding is

read_goes : (es ns : List Request) (todo : List ℕ) (key : Pair) (position : ℕ) (b : Brought) → GoesTo es ns todo → IsReadAt es key position b → IsReadAt ns key position b
read_goes es ns todo key position b goes is =
    let becomes = goes.each position is.request is.there in
    let same : becomes.request ≡ is.request = becomes.still (answered_quiet is.request.outcome b.1 is.answer) in
    record { request = is.request; there = becomes.there ∙ ap Some same; server = is.server; asked = is.asked; answer = is.answer }

reads_go : (es ns : List Request) (todo : List ℕ) (key : Pair) (positions : List ℕ) (reads : List Brought) → GoesTo es ns todo → AreReadAt es key positions reads → AreReadAt ns key positions reads
reads_go es ns todo key [] [] goes are = tt
reads_go es ns todo key [] (b ∷ bs) goes are = absurd are
reads_go es ns todo key (p ∷ ps) [] goes are = absurd are
reads_go es ns todo key (p ∷ ps) (b ∷ bs) goes are = (read_goes es ns todo key p b goes are.0, reads_go es ns todo key ps bs goes are.1)

only_goes : (es ns : List Request) (todo : List ℕ) (key : Pair) (positions : List ℕ) → GoesTo es ns todo → IsReadOnlyAt es key positions → IsReadOnlyAt ns key positions
only_goes es ns todo key positions goes only i n there about =
    let was = was_at es ns todo goes i n there in
    only i was.request was.there (about_same key was.request n was.server was.asked about)

come_goes : (todo : List ℕ) (old new : Request) (position : ℕ) (c : Came) → (is_outstanding old.outcome ≡ false → new ≡ old) → (new.outcome ≡ old.outcome) ⊎ Contains todo position
    → HasCome [] old position c → HasCome todo new position c
come_goes todo old new position Waits still waits is = elim waits [
  | inl same ↦ elim is [
    | inl out ↦ inl (same ∙ out)
    | inr at ↦ absurd (contains_none position at)
  ]
  | inr at ↦ inr at
]
come_goes todo old new position (Bytes v) still waits is = ap (λ (x : Request). x.outcome) (still (answered_quiet old.outcome v.items is)) ∙ is
come_goes todo old new position Nothing still waits is =
    let same : new.outcome ≡ old.outcome = ap (λ (x : Request). x.outcome) (still is.0) in
    (ap is_outstanding same ∙ is.0, λ bytes e. is.1 bytes (sym same ∙ e))

piece_goes : (es ns : List Request) (todo : List ℕ) (key : Pair) (r : readings.ShareReading) (i : ℕ) (w : Wanted) → GoesTo es ns todo → IsPiece es [] key r i w → IsPiece ns todo key r i w
piece_goes es ns todo key r i w goes is =
    let becomes = goes.each w.position is.request is.there in
    record {
      ahead = is.ahead;
      request = becomes.request;
      there = becomes.there;
      server = becomes.server ∙ is.server;
      asked = becomes.asked ∙ is.asked;
      came = come_goes todo is.request becomes.request w.position w.came becomes.still becomes.waits is.came;
    }

quiet_goes : (es ns : List Request) (todo : List ℕ) (key : Pair) → GoesTo es ns todo
    → ((i : ℕ) (r : Request) → slice_get es i ≡ Some r → IsAbout key r → is_outstanding r.outcome ≡ false)
    → (i : ℕ) (r : Request) → slice_get ns i ≡ Some r → IsAbout key r → is_outstanding r.outcome ≡ false
quiet_goes es ns todo key goes quiet i n there about =
    let was = was_at es ns todo goes i n there in
    let still = quiet i was.request was.there (about_same key was.request n was.server was.asked about) in
    ap (λ (r : Request). is_outstanding r.outcome) (was.still still) ∙ still

held_goes : (es ns : List Request) (todo : List ℕ) (o : Offer) → GoesTo es ns todo → settled_of ns o.server o.share ≡ settled_of es o.server o.share → IsHeld es o → IsHeld ns o
held_goes es ns todo o goes same h = record {
  front = h.front;
  back = h.back;
  front_at = reads_go es ns todo (key_of o) o.front.items h.front goes h.front_at;
  back_at = reads_go es ns todo (key_of o) o.back.items h.back goes h.back_at;
  pieces = h.pieces;
  whole = subst (λ (l : List Settled). IsWhole (brought_of l) (joined h.front ++ joined h.back)) (sym same) h.whole;
}

at_goes : (cap : VerifyCapValue) (es ns : List Request) (todo : List ℕ) (o : Offer) (s : Stage) → GoesTo es ns todo → IsAt cap es [] o s → IsAt cap ns todo o s
at_goes cap es ns todo o Waiting goes is = record { front = is.front; back = is.back; wanted = is.wanted; judged = is.judged; pieces = is.pieces; none = only_goes es ns todo (key_of o) [] goes is.none }
at_goes cap es ns todo o (Read r) goes is = record {
  front = is.front;
  back = is.back;
  led = is.led;
  front_at = reads_go es ns todo (key_of o) o.front.items is.front goes is.front_at;
  back_at = reads_go es ns todo (key_of o) o.back.items is.back goes is.back_at;
  judged = is.judged;
  pieces = is.pieces;
  wanted = λ i w e. piece_goes es ns todo (key_of o) r i w goes (is.wanted i w e);
  only = only_goes es ns todo (key_of o) (positions_of o.wanted.items ++ (o.front.items ++ o.back.items)) goes is.only;
}
at_goes cap es ns todo o (Ended v) goes is = record {
  verdict = subst (λ (l : List Settled). IsVerdict cap o.share l v) (sym (settled_stays es ns todo (key_of o) goes is.quiet)) is.verdict;
  held = λ good. held_goes es ns todo o goes (settled_stays es ns todo (key_of o) goes is.quiet) (is.held good);
  quiet = quiet_goes es ns todo (key_of o) goes is.quiet;
}

pub offer_goes : (cap : VerifyCapValue) (es ns : List Request) (todo : List ℕ) (o : Offer) → GoesTo es ns todo → IsOffer cap es [] o → IsOffer cap ns todo o
offer_goes cap es ns todo o goes is = at_goes cap es ns todo o o.stage goes is

-- ---- as more is asked

read_push : (es : List Request) (new : Request) (key : Pair) (position : ℕ) (b : Brought) → IsReadAt es key position b → IsReadAt (es ++ new ∷ []) key position b
read_push es new key position b is =
    record { request = is.request; there = get_kept es new is.request position is.there; server = is.server; asked = is.asked; answer = is.answer }

pub reads_push : (es : List Request) (new : Request) (key : Pair) (positions : List ℕ) (reads : List Brought) → AreReadAt es key positions reads → AreReadAt (es ++ new ∷ []) key positions reads
reads_push es new key [] [] are = tt
reads_push es new key [] (b ∷ bs) are = absurd are
reads_push es new key (p ∷ ps) [] are = absurd are
reads_push es new key (p ∷ ps) (b ∷ bs) are = (read_push es new key p b are.0, reads_push es new key ps bs are.1)

pub piece_push : (es : List Request) (new : Request) (todo : List ℕ) (key : Pair) (r : readings.ShareReading) (i : ℕ) (w : Wanted) → IsPiece es todo key r i w → IsPiece (es ++ new ∷ []) todo key r i w
piece_push es new todo key r i w is = record {
  ahead = is.ahead;
  request = is.request;
  there = get_kept es new is.request w.position is.there;
  server = is.server;
  asked = is.asked;
  came = is.came;
}

only_push : (es : List Request) (new : Request) (key : Pair) (positions : List ℕ) → (IsAbout key new → ⊥) → IsReadOnlyAt es key positions → IsReadOnlyAt (es ++ new ∷ []) key positions
only_push es new key positions other only i r there about = elim (get_pushed es new r i there) [
  | inl before ↦ only i r before about
  | inr last ↦ absurd (other (subst (IsAbout key) (sym last.1) about))
]

held_push : (es : List Request) (new : Request) (o : Offer) → settled_of (es ++ new ∷ []) o.server o.share ≡ settled_of es o.server o.share → IsHeld es o → IsHeld (es ++ new ∷ []) o
held_push es new o same h = record {
  front = h.front;
  back = h.back;
  front_at = reads_push es new (key_of o) o.front.items h.front h.front_at;
  back_at = reads_push es new (key_of o) o.back.items h.back h.back_at;
  pieces = h.pieces;
  whole = subst (λ (l : List Settled). IsWhole (brought_of l) (joined h.front ++ joined h.back)) (sym same) h.whole;
}

at_push : (cap : VerifyCapValue) (es : List Request) (new : Request) (todo : List ℕ) (o : Offer) (s : Stage) → is_outstanding new.outcome ≡ true → (IsAbout (key_of o) new → ⊥)
    → IsAt cap es todo o s → IsAt cap (es ++ new ∷ []) todo o s
at_push cap es new todo o Waiting waits other is = record { front = is.front; back = is.back; wanted = is.wanted; judged = is.judged; pieces = is.pieces; none = only_push es new (key_of o) [] other is.none }
at_push cap es new todo o (Read r) waits other is = record {
  front = is.front;
  back = is.back;
  led = is.led;
  front_at = reads_push es new (key_of o) o.front.items is.front is.front_at;
  back_at = reads_push es new (key_of o) o.back.items is.back is.back_at;
  judged = is.judged;
  pieces = is.pieces;
  wanted = λ i w e. piece_push es new todo (key_of o) r i w (is.wanted i w e);
  only = only_push es new (key_of o) (positions_of o.wanted.items ++ (o.front.items ++ o.back.items)) other is.only;
}
at_push cap es new todo o (Ended v) waits other is = record {
  verdict = subst (λ (l : List Settled). IsVerdict cap o.share l v) (sym (settled_push es (key_of o) new waits)) is.verdict;
  held = λ good. held_push es new o (settled_push es (key_of o) new waits) (is.held good);
  quiet = λ i r there about. elim (get_pushed es new r i there) [
    | inl before ↦ is.quiet i r before about
    | inr last ↦ absurd (other (subst (IsAbout (key_of o)) (sym last.1) about))
  ];
}

pub offer_push : (cap : VerifyCapValue) (es : List Request) (new : Request) (todo : List ℕ) (o : Offer) → is_outstanding new.outcome ≡ true → (IsAbout (key_of o) new → ⊥)
    → IsOffer cap es todo o → IsOffer cap (es ++ new ∷ []) todo o
offer_push cap es new todo o waits other is = at_push cap es new todo o o.stage waits other is

-- ---- what is taken in of another share

come_less : (todo : List ℕ) (done position : ℕ) (q : Request) (c : Came) → (position ≡ done → ⊥) → HasCome (done ∷ todo) q position c → HasCome todo q position c
come_less todo done position q Waits other is = elim is [
  | inl out ↦ inl out
  | inr at ↦ elim (contains_cases done position todo at) [
    | inl here ↦ absurd (other (sym here))
    | inr later ↦ inr later
  ]
]
come_less todo done position q (Bytes v) other is = is
come_less todo done position q Nothing other is = is

pub piece_less : (es : List Request) (todo : List ℕ) (done : ℕ) (key : Pair) (r : readings.ShareReading) (i : ℕ) (w : Wanted) → (w.position ≡ done → ⊥) → IsPiece es (done ∷ todo) key r i w → IsPiece es todo key r i w
piece_less es todo done key r i w other is = record {
  ahead = is.ahead;
  request = is.request;
  there = is.there;
  server = is.server;
  asked = is.asked;
  came = come_less todo done w.position is.request w.came other is.came;
}

at_done : (cap : VerifyCapValue) (es : List Request) (todo : List ℕ) (done : ℕ) (o : Offer) (s : Stage)
    → ((r : readings.ShareReading) (i : ℕ) (w : Wanted) → s ≡ Read r → slice_get o.wanted.items i ≡ Some w → w.position ≡ done → ⊥) → IsAt cap es (done ∷ todo) o s → IsAt cap es todo o s
at_done cap es todo done o Waiting other is = is
at_done cap es todo done o (Read r) other is = record {
  front = is.front;
  back = is.back;
  led = is.led;
  front_at = is.front_at;
  back_at = is.back_at;
  judged = is.judged;
  pieces = is.pieces;
  wanted = λ i w e. piece_less es todo done (key_of o) r i w (other r i w refl e) (is.wanted i w e);
  only = is.only;
}
at_done cap es todo done o (Ended v) other is = is

pub offer_done : (cap : VerifyCapValue) (es : List Request) (todo : List ℕ) (done : ℕ) (o : Offer)
    → ((r : readings.ShareReading) (i : ℕ) (w : Wanted) → o.stage ≡ Read r → slice_get o.wanted.items i ≡ Some w → w.position ≡ done → ⊥) → IsOffer cap es (done ∷ todo) o → IsOffer cap es todo o
offer_done cap es todo done o other is = at_done cap es todo done o o.stage other is

-- a piece of a share is asked for by a request about it
pub piece_about : (es : List Request) (todo : List ℕ) (key : Pair) (r : readings.ShareReading) (i : ℕ) (w : Wanted) (q : Request) → IsPiece es todo key r i w → slice_get es w.position ≡ Some q → IsAbout key q
piece_about es todo key r i w q is there =
    let same : is.request ≡ q = same_Some is.request q (sym is.there ∙ there) in
    subst (IsAbout key) same (about_by key is.request _ _ is.server is.asked)

pub offer_other : (cap : VerifyCapValue) (es : List Request) (todo : List ℕ) (done : ℕ) (o : Offer) (q : Request) → slice_get es done ≡ Some q → (IsAbout (key_of o) q → ⊥)
    → IsOffer cap es (done ∷ todo) o → IsOffer cap es todo o
offer_other cap es todo done o q there other is =
    offer_done cap es todo done o
    (λ r i w at e here. other (piece_about es (done ∷ todo) (key_of o) r i w q ((subst (IsAt cap es (done ∷ todo) o) at is).wanted i w e) (ap (slice_get es) here ∙ there)))
    is

-- ---- the requests of a share that is read

-- it asks for the piece at a position among those that are asked for
pub record IsAmong (wanted : List Wanted) (position : ℕ) : Type 0 where
  pub index : ℕ
  pub piece : Wanted
  pub there : slice_get wanted index ≡ Some piece
  pub at : piece.position ≡ position

among : (wanted : List Wanted) (position : ℕ) → Contains (positions_of wanted) position → IsAmong wanted position
among [] position at = absurd (contains_none position at)
among (w ∷ ws) position at = elim (contains_cases w.position position (positions_of ws) at) [
  | inl here ↦ record { index = 0; piece = w; there = refl; at = here }
  | inr later ↦ (let found = among ws position later in record { index = suc found.index; piece = found.piece; there = found.there; at = found.at })
]

module _ (cap : VerifyCapValue) (es : List Request) (todo : List ℕ) (o : Offer) (r : readings.ShareReading) (is : IsReading cap es todo o r) where
  -- the reads of it
  pub data IsOneOf (i : ℕ) : Type 0 where
    brought : (b : Brought) → Contains (is.front ++ is.back) b → IsReadAt es (key_of o) i b → IsOneOf i
    sought : (j : ℕ) (w : Wanted) → slice_get o.wanted.items j ≡ Some w → w.position ≡ i → IsOneOf i

  pub one_of : (i : ℕ) (x : Request) → slice_get es i ≡ Some x → IsAbout (key_of o) x → IsOneOf i
  one_of i x at about = elim (Contains-append_cases (positions_of o.wanted.items) (o.front.items ++ o.back.items) i (is.only i x at about)) [
    | inl wanted ↦ (let found = among o.wanted.items i wanted in sought found.index found.piece found.there found.at)
    | inr later ↦ elim (Contains-append_cases o.front.items o.back.items i later) [
      | inl front ↦ (let found = read_among es (key_of o) o.front.items is.front i is.front_at front in brought found.0 (Contains-append_left is.front is.back found.0 found.1) found.2)
      | inr back ↦ (let found = read_among es (key_of o) o.back.items is.back i is.back_at back in brought found.0 (Contains-append_right is.front is.back found.0 found.1) found.2)
    ]
  ]
