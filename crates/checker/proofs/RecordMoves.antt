-- How the record goes on from a message and a tick.
use Rattle.std.proofs.Common.{◌≡◌, ℕ, zero, suc, ◌+◌, ◌<◌, ◌≤◌, Bool, true, false, cond, List, [], ◌∷◌, ◌++◌, length, set, map, max, Option, Some, None, ap, refl, sym, subst, ◌∙◌, arith, inl, inr, ◌⊎◌, true≢false}
use Rattle.std.specs.Prelude.{Contains, slice_get, nat_le}
use Rattle.std.proofs.lemmas.Bool.{cases_lt}
use Rattle.std.proofs.lemmas.List.{length-map, length-set}
use Rattle.std.proofs.lemmas.List.Concat.{flat_map-append}
use Rattle.std.proofs.lemmas.List.Elements.{Contains-append_left}
use Rattle.std.proofs.lemmas.Option.{none-some, slice_get_within, same_Some}
use Rattle.request_record.proofs.StepLaws.{quiet_ticked}
use Rattle.lemmas.proofs.Bools.{both, bool_cases}
use Rattle.lemmas.proofs.Members.{flat_map_has, flat_map_from, contains_cases, contains_head, contains_none, contains_tail}
use Rattle.lemmas.proofs.Positions.{get_set_other, get_pushed, get_map}
use Rattle.cap_text.specs.Cap.{VerifyCapValue}
use Rattle.placement.specs.Matching.{Pair}
use Rattle.wire.specs.declared.message.Body.{Body}
use Rattle.wire.specs.declared.message.Body.TheVariants.{Data}
use Rattle.wire.specs.declared.message.Message.{Message}
use Rattle.request_record.specs.declared.requests.Asked.{Asked}
use Rattle.request_record.specs.declared.requests.Asked.TheVariants.{Holdings, Allocation, Writing, Closing, Reading, Aborting}
use Rattle.request_record.specs.declared.requests.Outcome.{Outcome}
use Rattle.request_record.specs.declared.requests.Outcome.TheVariants.{Answered, Lost}
use Rattle.request_record.specs.declared.requests.Request.{Request}
use Rattle.request_record.specs.Kept.{data_as, data_in}
use Rattle.request_record.specs.Record.{RequestsState, age_of, answered_in, at, counted_at, counts_at, is_lost_at, is_outstanding, is_resent_at, lost_positions, positions_from, resent_one, ticked_one, with_outcome}
use Rattle.request_record.specs.Asking.{AreApart, AsksOnce, after_message, after_tick, lost_by_tick}
use Rattle.request_record.proofs.RecordLaws.{counts_is}
use Rattle.request_record.proofs.AskingLaws.{once_asked, once_ticked}
use Rattle.share_reading.specs.OpeningReads.{Brought}
use Rattle.share_reading.specs.Reads.{IsAsked}
use Rattle.share_reading.specs.Verdict.{Settled, brought_of}
use Rattle.share_reading.proofs.VerdictLemmas.{brought_from, brought_has}
use Rattle.checker.specs.Book.{AsksOrReads, IsBrought}
use Rattle.checker.specs.Right.{AreOfShares}
use Rattle.checker.specs.Shares.{offered_in, offered_pairs, offered_to, settled_of}
use Rattle.checker.proofs.Entries.{BecomesAt, GoesTo, IsSettledBy, about_by, get_set_same, is_waiting, settled_from, settled_has, settled_push, unsettled, was_at}
use Rattle.checker.proofs.AnswerMoves.{IsSafeToAsk, more_asked, span_request}

-- ---- a message

becomes_same : (es : List Request) (todo : List ℕ) (i : ℕ) (r : Request) → slice_get es i ≡ Some r → BecomesAt es todo i r
becomes_same es todo i r there = record { request = r; there = there; server = refl; asked = refl; still = λ _. refl; waits = inl refl }

goes_set : (es : List Request) (position : ℕ) (q : Request) (body : Body) → slice_get es position ≡ Some q → is_outstanding q.outcome ≡ true
    → GoesTo es (set es position (with_outcome q (Answered body))) (position ∷ [])
goes_set es position q body there waits = record {
  long = length-set es position (with_outcome q (Answered body));
  each = each;
}
  where
    other : (i : ℕ) (r : Request) → slice_get es i ≡ Some r → (i ≡ position → ⊥) → BecomesAt (set es position (with_outcome q (Answered body))) (position ∷ []) i r
    other i r e apart = record {
      request = r;
      there = get_set_other es position i (with_outcome q (Answered body)) apart ∙ e;
      server = refl;
      asked = refl;
      still = λ _. refl;
      waits = inl refl;
    }

    each : (i : ℕ) (r : Request) → slice_get es i ≡ Some r → BecomesAt (set es position (with_outcome q (Answered body))) (position ∷ []) i r
    each i r e = elim (cases_lt i position) [
      | inl lt ↦ other i r e (λ h. omega (arith, h, lt))
      | inr le ↦ elim (cases_lt position i) [
        | inl lt ↦ other i r e (λ h. omega (arith, h, lt))
        | inr ge ↦ (
            let here : i ≡ position = omega (arith, le, ge) in
            let same : q ≡ r = same_Some q r (sym there ∙ ap (slice_get es) (sym here) ∙ e) in
            record {
              request = with_outcome q (Answered body);
              there = ap (slice_get (set es position (with_outcome q (Answered body)))) here ∙ get_set_same es position q (with_outcome q (Answered body)) there;
              server = ap (λ (x : Request). x.server) same;
              asked = ap (λ (x : Request). x.asked) same;
              still = λ quiet. absurd (true≢false (sym waits ∙ ap (λ (x : Request). is_outstanding x.outcome) same ∙ quiet));
              waits = inr (subst (Contains (position ∷ [])) (sym here) (contains_head position []));
            })
      ]
    ]

-- what a message that counts makes of the record
pub record IsCounted (es ns : List Request) (position : ℕ) : Type 0 where
  pub goes : GoesTo es ns (position ∷ [])
  pub waited : (i : ℕ) (r : Request) → Contains (position ∷ []) i → slice_get es i ≡ Some r → is_outstanding r.outcome ≡ true
  pub quiet : (i : ℕ) (r : Request) → Contains (position ∷ []) i → slice_get ns i ≡ Some r → is_outstanding r.outcome ≡ false
  pub inside : (i : ℕ) → Contains (position ∷ []) i → i < length ns

counted_by : (from now : ℕ) (m : Message) (s : RequestsState) (position : ℕ) → counts_at from m (at now s) ≡ Some position → IsCounted s.entries (after_message from m now s).entries position
counted_by from now m s position counts =
    let is = counts_is from m (at now s) position counts in
    let q = is.request in
    let ns = set s.entries position (with_outcome q (Answered m.body)) in
    let result : (after_message from m now s).entries ≡ ns =
    ap (λ (o : Option ℕ). (counted_at m (at now s) o).entries) counts ∙ ap (λ (o : Option Request). answered_in s.entries position o m.body) is.there in
    subst (λ (l : List Request). IsCounted s.entries l position) (sym result) (record {
      goes = goes_set s.entries position q m.body is.there is.waits;
      waited = λ i r h e. (let same : q ≡ r = same_Some q r (sym is.there ∙ ap (slice_get s.entries) (alone position i h) ∙ e) in
          ap (λ (x : Request). is_outstanding x.outcome) (sym same) ∙ is.waits);
      quiet = λ i r h e. (let new : with_outcome q (Answered m.body) ≡ r =
          same_Some (with_outcome q (Answered m.body)) r (sym (get_set_same s.entries position q (with_outcome q (Answered m.body)) is.there) ∙ ap (slice_get ns) (alone position i h) ∙ e) in
          ap (λ (x : Request). is_outstanding x.outcome) (sym new));
      inside = λ i h. subst (λ j. j < length ns) (alone position i h)
          (slice_get_within ns position (with_outcome q (Answered m.body)) (get_set_same s.entries position q (with_outcome q (Answered m.body)) is.there));
    })
  where
    alone : (x i : ℕ) → Contains (x ∷ []) i → x ≡ i
    alone x i h = elim (contains_cases x i [] h) [ inl same ↦ same | inr none ↦ absurd (contains_none i none) ]

-- the same with the position that the call told
pub counted_at_position : (from now : ℕ) (m : Message) (s : RequestsState) (position : ℕ) → Some position ≡ counts_at from m s → IsCounted s.entries (after_message from m now s).entries position
counted_at_position from now m s position counts = counted_by from now m s position (sym counts)

-- it is there with its answer
answered_at : (from now : ℕ) (m : Message) (s : RequestsState) (position : ℕ) → Some position ≡ counts_at from m s
    → (q : Request) × (slice_get (after_message from m now s).entries position ≡ Some (with_outcome q (Answered m.body)))
answered_at from now m s position counts =
    let is = counts_is from m (at now s) position (sym counts) in
    let x = with_outcome is.request (Answered m.body) in
    let result : (after_message from m now s).entries ≡ set s.entries position x =
    ap (λ (o : Option ℕ). (counted_at m (at now s) o).entries) (sym counts) ∙ ap (λ (o : Option Request). answered_in s.entries position o m.body) is.there in
    (is.request, ap (λ (l : List Request). slice_get l position) result ∙ get_set_same s.entries position is.request x is.there)

data_is : (body : Body) (bytes : List ℕ) → data_in body ≡ Some bytes → body ≡ Data bytes
data_is (Data others) bytes e = ap Data (same_Some others bytes e)
data_is body bytes e = absurd cc

answer_brought : (es : List Request) (position : ℕ) (x : Request) (body : Body) (o : Option (List ℕ)) → slice_get es position ≡ Some x → x.outcome ≡ Answered body → o ≡ data_in body → IsBrought es position o
answer_brought es position x body (Some bytes) there answer e = record { request = x; there = there; answer = answer ∙ ap Answered (data_is body bytes (sym e)) }
answer_brought es position x body None there answer e = λ bytes has.
    none-some bytes (e ∙ ap data_as (sym answer ∙ ap (λ (r : Request). r.outcome) (same_Some x has.request (sym there ∙ has.there)) ∙ has.answer))

-- the bytes that the answer brought
pub message_brought : (from now : ℕ) (m : Message) (s r : RequestsState) (position : ℕ) (o : Option (List ℕ)) → Some position ≡ counts_at from m s → r ≡ after_message from m now s → o ≡ data_in m.body → IsBrought r.entries position o
message_brought from now m s r position o counts is of =
    let found = answered_at from now m s position counts in
    subst (λ (x : RequestsState). IsBrought x.entries position o) (sym is)
    (answer_brought (after_message from m now s).entries position (with_outcome found.0 (Answered m.body)) m.body o found.1 refl of)

pub uncounted : (from : ℕ) (m : Message) (now : ℕ) (s : RequestsState) → None ≡ counts_at from m s → (after_message from m now s).entries ≡ s.entries
uncounted from m now s e = ap (λ (o : Option ℕ). (counted_at m (at now s) o).entries) (sym e)

-- ---- a tick

ticked_cases : (now : ℕ) (r : Request) → (is_lost_at now r ≡ true × ticked_one now r ≡ with_outcome r Lost) ⊎ ((ticked_one now r).server ≡ r.server × (ticked_one now r).asked ≡ r.asked × (ticked_one now r).outcome ≡ r.outcome)
ticked_cases now r = by (is_lost_at now r) (is_resent_at now r) refl
  where
    by : (lost again : Bool) → is_lost_at now r ≡ lost
        → (is_lost_at now r ≡ true × cond lost (with_outcome r Lost) (cond again (resent_one now r) r) ≡ with_outcome r Lost)
        ⊎ ((cond lost (with_outcome r Lost) (cond again (resent_one now r) r)).server ≡ r.server
        × (cond lost (with_outcome r Lost) (cond again (resent_one now r) r)).asked ≡ r.asked
        × (cond lost (with_outcome r Lost) (cond again (resent_one now r) r)).outcome ≡ r.outcome)
    by true again e = inl (e, refl)
    by false true e = inr (refl, refl, refl)
    by false false e = inr (refl, refl, refl)

lost_waits : (now : ℕ) (r : Request) → is_lost_at now r ≡ true → is_outstanding r.outcome ≡ true
lost_waits now r e = (both (is_outstanding r.outcome) (nat_le 20 (age_of now r)) e).0

in_rest : (test : Request → Bool) (from : ℕ) (x : Request) (xs : List Request) (p : ℕ) (b : Bool) → Contains (positions_from test (from + 1) xs) p
    → Contains (cond b (from ∷ positions_from test (from + 1) xs) (positions_from test (from + 1) xs)) p
in_rest test from x xs p true later = contains_tail from p (positions_from test (from + 1) xs) later
in_rest test from x xs p false later = later

-- the positions of the lost ones, from a position on
in_positions : (test : Request → Bool) (from : ℕ) (es : List Request) (i : ℕ) (r : Request) → slice_get es i ≡ Some r → test r ≡ true → Contains (positions_from test from es) (from + i)
in_positions test from [] i r there e = absurd cc
in_positions test from (x ∷ xs) zero r there e =
    let is : test x ≡ true = ap test (same_Some x r there) ∙ e in
    rw is (subst (Contains (from ∷ positions_from test (from + 1) xs)) (omega arith) (contains_head from (positions_from test (from + 1) xs)))
in_positions test from (x ∷ xs) (suc i) r there e =
    in_rest test from x xs (from + suc i) (test x) (subst (Contains (positions_from test (from + 1) xs)) (omega arith) (in_positions test (from + 1) xs i r there e))

pub record IsPositionOf (test : Request → Bool) (from : ℕ) (es : List Request) (p : ℕ) : Type 0 where
  pub index : ℕ
  pub is : p ≡ from + index
  pub request : Request
  pub there : slice_get es index ≡ Some request
  pub passes : test request ≡ true

position_later : (test : Request → Bool) (from : ℕ) (x : Request) (xs : List Request) (p : ℕ) → IsPositionOf test (from + 1) xs p → IsPositionOf test from (x ∷ xs) p
position_later test from x xs p found = record { index = suc found.index; is = omega (arith, found.is); request = found.request; there = found.there; passes = found.passes }

position_by : (test : Request → Bool) (from : ℕ) (x : Request) (xs : List Request) (p : ℕ) (b : Bool) → test x ≡ b
    → (Contains (positions_from test (from + 1) xs) p → IsPositionOf test (from + 1) xs p)
    → Contains (cond b (from ∷ positions_from test (from + 1) xs) (positions_from test (from + 1) xs)) p → IsPositionOf test from (x ∷ xs) p
position_by test from x xs p true e rest k = elim (contains_cases from p (positions_from test (from + 1) xs) k) [
  | inl here ↦ record { index = 0; is = omega (arith, here); request = x; there = refl; passes = e }
  | inr later ↦ position_later test from x xs p (rest later)
]
position_by test from x xs p false e rest k = position_later test from x xs p (rest k)

of_positions : (test : Request → Bool) (from : ℕ) (es : List Request) (p : ℕ) → Contains (positions_from test from es) p → IsPositionOf test from es p
of_positions test from [] p h = absurd (contains_none p h)
of_positions test from (x ∷ xs) p h = position_by test from x xs p (test x) refl (of_positions test (from + 1) xs p) h

-- what a tick makes of the record
pub record IsTicked (es ns : List Request) (lost : List ℕ) : Type 0 where
  pub goes : GoesTo es ns lost
  pub waited : (i : ℕ) (r : Request) → Contains lost i → slice_get es i ≡ Some r → is_outstanding r.outcome ≡ true
  pub quiet : (i : ℕ) (r : Request) → Contains lost i → slice_get ns i ≡ Some r → r.outcome ≡ Lost
  pub inside : (i : ℕ) → Contains lost i → i < length ns

ticked_at : (now : ℕ) (es : List Request) → IsTicked es (map (ticked_one now) es) (lost_positions now es)
ticked_at now es = record {
  goes = record { long = length-map es (ticked_one now); each = each };
  waited = λ i r h e. (
      let p = of_positions (is_lost_at now) 0 es i h in
      let same : p.request ≡ r = same_Some p.request r (sym p.there ∙ ap (slice_get es) (omega (arith, p.is)) ∙ e) in
      lost_waits now r (ap (is_lost_at now) (sym same) ∙ p.passes));
  quiet = λ i r h e. (
      let p = of_positions (is_lost_at now) 0 es i h in
      let new : ticked_one now p.request ≡ r = same_Some (ticked_one now p.request) r (sym (get_map (ticked_one now) es p.index p.request p.there) ∙ ap (slice_get (map (ticked_one now) es)) (omega (arith, p.is)) ∙ e) in
      ap (λ (x : Request). x.outcome) (sym new) ∙ (rw p.passes refl));
  inside = λ i h. (let p = of_positions (is_lost_at now) 0 es i h in omega (arith, p.is, slice_get_within es p.index p.request p.there, length-map es (ticked_one now)));
}
  where
    each : (i : ℕ) (r : Request) → slice_get es i ≡ Some r → BecomesAt (map (ticked_one now) es) (lost_positions now es) i r
    each i r e = elim (ticked_cases now r) [
      | inl lost ↦ record {
        request = ticked_one now r;
        there = get_map (ticked_one now) es i r e;
        server = ap (λ (x : Request). x.server) lost.1;
        asked = ap (λ (x : Request). x.asked) lost.1;
        still = quiet_ticked now r;
        waits = inr (subst (Contains (lost_positions now es)) (omega arith) (in_positions (is_lost_at now) 0 es i r e lost.0));
      }
      | inr same ↦ record {
        request = ticked_one now r;
        there = get_map (ticked_one now) es i r e;
        server = same.0;
        asked = same.1;
        still = quiet_ticked now r;
        waits = inl same.2;
      }
    ]

pub ticked_by : (now : ℕ) (s : RequestsState) → IsTicked s.entries (after_tick now s).entries (lost_by_tick now s)
ticked_by now s = ticked_at (max s.clock now) s.entries

pub ticked_as : (now : ℕ) (s r : RequestsState) (lost : List ℕ) → lost ≡ lost_by_tick now s → r ≡ after_tick now s → IsTicked s.entries r.entries lost
ticked_as now s r lost told is = subst (λ (x : RequestsState). IsTicked s.entries x.entries lost) (sym is) (subst (λ (l : List ℕ). IsTicked s.entries (after_tick now s).entries l) (sym told) (ticked_by now s))

pub once_as : (now : ℕ) (s r : RequestsState) → r ≡ after_tick now s → AsksOnce s.entries → AsksOnce r.entries
once_as now s r is once = subst (λ (x : RequestsState). AsksOnce x.entries) (sym is) (once_ticked now s once)

-- ---- what is asked stays of shares

-- what waits no more tells what it told
pub told_on : (es ns : List Request) (todo : List ℕ) (key : Pair) (s : Settled) → GoesTo es ns todo → Contains (settled_of es key.0 key.1) s → Contains (settled_of ns key.0 key.1) s
told_on es ns todo key s goes h =
    let by = settled_from es key s h in
    let becomes = goes.each by.position by.request by.there in
    by_quiet by becomes (is_outstanding by.request.outcome) refl
  where
    by_quiet : (by : IsSettledBy es key s) → BecomesAt ns todo by.position by.request → (b : Bool) → is_outstanding by.request.outcome ≡ b → Contains (settled_of ns key.0 key.1) s
    by_quiet by becomes true e =
        absurd (contains_none s (subst (λ (l : List Settled). Contains l s) (unsettled by.request.asked by.request.outcome e) by.has))
    by_quiet by becomes false e =
        settled_has ns key by.position by.request s (becomes.there ∙ ap Some (becomes.still e)) by.about by.has

grows_on : (es ns : List Request) (todo : List ℕ) (key : Pair) (b : Brought) → GoesTo es ns todo → Contains (brought_of (settled_of es key.0 key.1)) b → Contains (brought_of (settled_of ns key.0 key.1)) b
grows_on es ns todo key b goes h =
    let by = brought_from (settled_of es key.0 key.1) b h in
    let same : (by.read.offset, b.1) ≡ b = ap (λ n. (n, b.1)) by.offset in
    subst (Contains (brought_of (settled_of ns key.0 key.1))) same
    (brought_has (settled_of ns key.0 key.1) by.read b.1 (told_on es ns todo key by.read goes by.among) by.answer)

pub shares_go : (cap : VerifyCapValue) (es ns : List Request) (todo : List ℕ) → GoesTo es ns todo → AreOfShares cap es → AreOfShares cap ns
shares_go cap es ns todo goes are i r share offset len there asked =
    let was = was_at es ns todo goes i r there in
    let old = are i was.request share offset len was.there (sym was.asked ∙ asked) in
    let key : Pair = (r.server, share) in
    more_asked cap (brought_of (settled_of es r.server share)) (brought_of (settled_of ns r.server share)) offset len
    (λ b h. grows_on es ns todo key b goes h)
    (subst (λ n. IsAsked cap (brought_of (settled_of es n share)) offset len) (sym was.server) old)

apart_none : (a : Asked) (share position len : ℕ) → ((offset count : ℕ) → a ≡ Reading share offset count → (offset + count ≤ position) ⊎ (position + len ≤ offset)) → AreApart a (Reading share position len)
apart_none Holdings share position len none = λ e. cc
apart_none (Allocation n l) share position len none = λ e. cc
apart_none (Writing n offset l) share position len none = λ e. cc
apart_none (Closing n) share position len none = λ e. cc
apart_none (Reading n offset count) share position len none = λ same. none offset count (ap (λ m. Reading m offset count) same)
apart_none (Aborting n) share position len none = λ e. cc

-- ---- what was offered stays offered

unoffered : (total server : ℕ) (a : Asked) (o : Outcome) → is_outstanding o ≡ true → offered_to total server a o ≡ []
unoffered total server Holdings o e = ap (offered_in total server) (is_waiting o e)
unoffered total server (Allocation n len) o e = refl
unoffered total server (Writing n offset len) o e = refl
unoffered total server (Closing n) o e = refl
unoffered total server (Reading n offset len) o e = refl
unoffered total server (Aborting n) o e = refl

abbrev offers_in : ℕ → Request → List Pair
offers_in total r = offered_to total r.server r.asked r.outcome

pub offered_goes : (total : ℕ) (es ns : List Request) (todo : List ℕ) → GoesTo es ns todo → (p : Pair) → Contains (offered_pairs total es) p → Contains (offered_pairs total ns) p
offered_goes total es ns todo goes p at =
    let found = flat_map_from (offers_in total) es p at in
    let source = found.source in
    let becomes = goes.each found.position source found.there in
    elim (bool_cases (is_outstanding source.outcome)) [
      | inl waits ↦ absurd (contains_none p (subst (λ (l : List Pair). Contains l p) (unoffered total source.server source.asked source.outcome waits) found.has))
      | inr quiet ↦ flat_map_has (offers_in total) ns found.position becomes.request p becomes.there (subst (λ (x : Request). Contains (offers_in total x) p) (sym (becomes.still quiet)) found.has)
    ]

pub offered_push : (total : ℕ) (es : List Request) (new : Request) (p : Pair) → Contains (offered_pairs total es) p → Contains (offered_pairs total (es ++ new ∷ [])) p
offered_push total es new p at =
    subst (λ (l : List Pair). Contains l p) (sym (flat_map-append (offers_in total) es (new ∷ [])))
    (Contains-append_left (offered_pairs total es) (offered_pairs total (new ∷ [])) p at)

pub may_more : (cap : VerifyCapValue) (es ns : List Request) → ((p : Pair) → Contains (offered_pairs cap.total es) p → Contains (offered_pairs cap.total ns) p)
    → (server : ℕ) (a : Asked) → AsksOrReads cap es server a → AsksOrReads cap ns server a
may_more cap es ns more server Holdings may = tt
may_more cap es ns more server (Allocation n len) may = absurd may
may_more cap es ns more server (Writing n offset len) may = absurd may
may_more cap es ns more server (Closing n) may = absurd may
may_more cap es ns more server (Reading n offset len) may = more (server, n) may
may_more cap es ns more server (Aborting n) may = absurd may

pub once_next : (cap : VerifyCapValue) (es : List Request) (key : Pair) (offset len now : ℕ) → IsSafeToAsk cap es key offset len → AsksOnce es → AsksOnce (es ++ span_request key.0 key.1 offset len now ∷ [])
once_next cap es key offset len now safe once =
    once_asked key.0 now (Reading key.1 offset len) es
    (λ i x there server. apart_none x.asked key.1 offset len
    (λ from count asked. safe.apart i x from count there (about_by key x from count server asked) asked))
    once

abbrev IsAskedAs : VerifyCapValue → List Request → ℕ → Asked → Type 0
IsAskedAs cap es server (Reading n position count) = IsAsked cap (brought_of (settled_of es server n)) position count
IsAskedAs cap es server a = ⊥

pub shares_next : (cap : VerifyCapValue) (es : List Request) (key : Pair) (offset len now : ℕ) → IsSafeToAsk cap es key offset len → AreOfShares cap es → AreOfShares cap (es ++ span_request key.0 key.1 offset len now ∷ [])
shares_next cap es key offset len now safe are i x share from count there asked =
    let new = span_request key.0 key.1 offset len now in
    subst (λ (l : List Settled). IsAsked cap (brought_of l) from count) (sym (settled_push es (x.server, share) new refl))
    (elim (get_pushed es new x i there) [
      | inl before ↦ are i x share from count before asked
      | inr pushed ↦ (
          let same : Reading key.1 offset len ≡ Reading share from count = ap (λ (q : Request). q.asked) pushed.1 ∙ asked in
          let servers : key.0 ≡ x.server = ap (λ (q : Request). q.server) pushed.1 in
          subst (λ n. IsAsked cap (brought_of (settled_of es n share)) from count) servers
          (subst (λ (a : Asked). IsAskedAs cap es key.0 a) same safe.asked))
    ])
