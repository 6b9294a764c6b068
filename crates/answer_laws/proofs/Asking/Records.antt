-- Whom a record asked, it asked still as it goes on.
use Rattle.std.proofs.Common.{◌≡◌, ◌⊎◌, ℕ, max, List, [], ◌∷◌, length, map, Option, Some, None, refl, sym, subst, ap, ◌∙◌, inl, inr}
use Rattle.std.specs.Prelude.{Contains, slice_get, option_map}
use Rattle.std.proofs.lemmas.Bool.{cases_eq}
use Rattle.std.proofs.lemmas.Option.{same_Some, slice_get-map}
use Rattle.lemmas.proofs.Members.{contains_cases, contains_none}
use Rattle.lemmas.proofs.Positions.{get_last, get_left, get_other, get_pushed, get_set, set_cases}
use Rattle.wire.specs.declared.message.Body.{Body}
use Rattle.wire.specs.declared.message.Message.{Message}
use Rattle.request_record.specs.declared.requests.Asked.{Asked}
use Rattle.request_record.specs.declared.requests.Asked.TheVariants.{Holdings, Allocation, Writing, Closing, Reading, Aborting}
use Rattle.request_record.specs.declared.requests.Outcome.TheVariants.{Answered, Lost, Unawaited}
use Rattle.request_record.specs.declared.requests.Request.{Request}
use Rattle.request_record.specs.Asking.{after_message, after_tick, asks_of, begun, fresh}
use Rattle.request_record.specs.Record.{RequestsState, answered_in, asked_all, asked_more, at, counted_at, counts_at, first_outcome, first_request, ticked_one, with_outcome}
use Rattle.request_record.proofs.FollowLaws.{some_of, ticks_one}
use Rattle.answer_laws.specs.Asking.Asked.{AsksAll, IsAsked}

-- the request that stands at a position now asks the same of the same server
record AsksStill (entries : List Request) (position : ℕ) (r : Request) : Type 0 where
  pub request : Request
  pub there : slice_get entries position ≡ Some request
  pub server : request.server ≡ r.server
  pub asked : request.asked ≡ r.asked

abbrev Aborts : Asked → Type 0
Aborts asked = (share : ℕ) × (asked ≡ Aborting share)

-- a request of before that was not waited for asked this
record WasUnawaited (entries : List Request) (position : ℕ) (asked : Asked) : Type 0 where
  pub request : Request
  pub there : slice_get entries position ≡ Some request
  pub unawaited : request.outcome ≡ Unawaited
  pub same : request.asked ≡ asked

-- what was asked stays asked, and what is not waited for was not before, or aborts
record Stays (old new : List Request) : Type 0 where
  pub keeps : (position : ℕ) (r : Request) → slice_get old position ≡ Some r → AsksStill new position r
  pub back : (position : ℕ) (s : Request) → slice_get new position ≡ Some s → s.outcome ≡ Unawaited → WasUnawaited old position s.asked ⊎ Aborts s.asked

itself : (entries : List Request) → Stays entries entries
itself entries = record {
  keeps = λ position r e. record { request = r; there = e; server = refl; asked = refl };
  back = λ position s e o. inl record { request = s; there = e; unawaited = o; same = refl };
}

then_stays : (a b c : List Request) → Stays a b → Stays b c → Stays a c
then_stays a b c f g = record {
  keeps = λ position r e.
      let s = f.keeps position r e in
      let t = g.keeps position s.request s.there in record { request = t.request; there = t.there; server = t.server ∙ s.server; asked = t.asked ∙ s.asked };
  back = λ position t e o. elim (g.back position t e o) [
    | inr aborts ↦ inr aborts
    | inl was ↦ elim (f.back position was.request was.there was.unawaited) [
      | inl earlier ↦ inl record { request = earlier.request; there = earlier.there; unawaited = earlier.unawaited; same = earlier.same ∙ was.same }
      | inr aborts ↦ inr (aborts.0, sym was.same ∙ aborts.1)
    ]
  ];
}

is_asked_on : (old new : List Request) (server : ℕ) → Stays old new → IsAsked old server → IsAsked new server
is_asked_on old new server stays a =
    let s = stays.keeps a.position a.request a.there in
    record { position = a.position; request = s.request; there = s.there; of_server = s.server ∙ a.of_server; asked = s.asked ∙ a.asked }

asks_all_on : (servers : List ℕ) (old new : List Request) → Stays old new → AsksAll servers old → AsksAll servers new
asks_all_on servers old new stays all = record {
  asked = λ server among. is_asked_on old new server stays (all.asked server among);
  awaited = λ position s e o. elim (stays.back position s e o) [
    | inr aborts ↦ aborts
    | inl was ↦ (let old_one = all.awaited position was.request was.there was.unawaited in (old_one.0, sym was.same ∙ old_one.1))
  ];
}

-- ---- asking

first_unawaited : (asked : Asked) → first_outcome asked ≡ Unawaited → Aborts asked
first_unawaited Holdings e = absurd cc
first_unawaited (Allocation share len) e = absurd cc
first_unawaited (Writing share offset len) e = absurd cc
first_unawaited (Closing share) e = absurd cc
first_unawaited (Reading share offset len) e = absurd cc
first_unawaited (Aborting share) e = (share, refl)

stays_more : (server : ℕ) (asked : Asked) (r : RequestsState) → Stays r.entries (asked_more server asked r).entries
stays_more server asked r = record {
  keeps = λ position q e. record { request = q; there = get_left r.entries (first_request server asked r.clock ∷ []) position q e; server = refl; asked = refl };
  back = λ position s e o. elim (get_pushed r.entries (first_request server asked r.clock) s position e) [
    | inl before ↦ inl record { request = s; there = before; unawaited = o; same = refl }
    | inr last ↦
        let aborts = first_unawaited asked (ap (λ (q : Request). q.outcome) last.1 ∙ o) in
        inr (aborts.0, ap (λ (q : Request). q.asked) (sym last.1) ∙ aborts.1)
  ];
}

stays_asks : (asks : List (ℕ × Asked)) (r : RequestsState) → Stays r.entries (asked_all asks r).entries
stays_asks [] r = itself r.entries
stays_asks (ask ∷ asks) r =
    then_stays r.entries (asked_more ask.0 ask.1 r).entries (asked_all asks (asked_more ask.0 ask.1 r)).entries (stays_more ask.0 ask.1 r) (stays_asks asks (asked_more ask.0 ask.1 r))

each_asked : (servers : List ℕ) (r : RequestsState) (server : ℕ) → Contains servers server → IsAsked (asked_all (asks_of servers) r).entries server
each_asked [] r server among = absurd (contains_none server among)
each_asked (s ∷ ss) r server among =
    let next : RequestsState = asked_more s Holdings r in
    elim (contains_cases s server ss among) [
      | inl is ↦
          is_asked_on next.entries (asked_all (asks_of ss) next).entries server (stays_asks (asks_of ss) next)
          record { position = length r.entries; request = first_request s Holdings r.clock; there = get_last r.entries (first_request s Holdings r.clock); of_server = is; asked = refl }
      | inr later ↦ each_asked ss next server later
    ]

-- ---- answers

stays_answered : (entries : List Request) (position : ℕ) (o : Option Request) (body : Body) → slice_get entries position ≡ o → Stays entries (answered_in entries position o body)
stays_answered entries position None body there = itself entries
stays_answered entries position (Some r) body there =
    let new : Request = with_outcome r (Answered body) in record {
      keeps = λ i q e. elim (cases_eq i position) [
        | inl here ↦
            let same : r ≡ q = same_Some r q (sym there ∙ ap (slice_get entries) (sym here) ∙ e) in
            record {
              request = new;
              there = ap (slice_get (answered_in entries position (Some r) body)) here ∙ get_set entries position new r there;
              server = ap (λ (x : Request). x.server) same;
              asked = ap (λ (x : Request). x.asked) same;
            }
        | inr other ↦ record { request = q; there = get_other entries position i new other ∙ e; server = refl; asked = refl }
      ];
      back = λ i s e o. elim (set_cases entries position i new s e) [
        | inl here ↦ absurd (never (ap (λ (x : Request). x.outcome) here.1 ∙ o))
        | inr other ↦ inl record { request = s; there = other.1; unawaited = o; same = refl }
      ];
    }
  where
    never : Answered body ≡ Unawaited → ⊥
    never e = cc

stays_counted : (m : Message) (r : RequestsState) (o : Option ℕ) → Stays r.entries (counted_at m r o).entries
stays_counted m r None = itself r.entries
stays_counted m r (Some position) = stays_answered r.entries position (slice_get r.entries position) m.body refl

-- ---- ticks

stays_ticked : (now : ℕ) (entries : List Request) → Stays entries (map (ticked_one now) entries)
stays_ticked now entries = record {
  keeps = λ position r e.
      let t = ticks_one now r in
      record { request = ticked_one now r; there = slice_get-map (ticked_one now) entries position ∙ ap (option_map (ticked_one now)) e; server = t.server; asked = t.asked };
  back = λ position s e o.
      let was = some_of now (slice_get entries position) s (sym (slice_get-map (ticked_one now) entries position) ∙ e) in
      let t = ticks_one now was.0 in
      let outcome : (ticked_one now was.0).outcome ≡ Unawaited = ap (λ (x : Request). x.outcome) (sym was.2) ∙ o in
      elim t.outcome [
        | inl same ↦ inl record { request = was.0; there = was.1; unawaited = sym same ∙ outcome; same = sym t.asked ∙ ap (λ (x : Request). x.asked) (sym was.2) }
        | inr lost ↦ absurd (never (sym lost ∙ outcome))
      ];
}
  where
    never : Lost ≡ Unawaited → ⊥
    never e = cc

-- ---- what the layers above need

pub begun_asks_all : (servers : List ℕ) (session now : ℕ) → AsksAll servers (begun servers session now).entries
begun_asks_all servers session now =
    let none : AsksAll [] (fresh session now).entries = record { asked = λ server among. absurd (contains_none server among); awaited = λ position r e o. absurd cc } in
    record {
      asked = each_asked servers (fresh session now);
      awaited = (asks_all_on [] (fresh session now).entries (begun servers session now).entries (stays_asks (asks_of servers) (fresh session now)) none).awaited;
    }

pub asked_after_asks : (servers : List ℕ) (asks : List (ℕ × Asked)) (r : RequestsState) → AsksAll servers r.entries → AsksAll servers (asked_all asks r).entries
asked_after_asks servers asks r all = asks_all_on servers r.entries (asked_all asks r).entries (stays_asks asks r) all

pub asked_after_message : (servers : List ℕ) (from : ℕ) (m : Message) (now : ℕ) (r : RequestsState) → AsksAll servers r.entries → AsksAll servers (after_message from m now r).entries
asked_after_message servers from m now r all =
    asks_all_on servers r.entries (after_message from m now r).entries (stays_counted m (at now r) (counts_at from m (at now r))) all

pub asked_after_tick : (servers : List ℕ) (now : ℕ) (r : RequestsState) → AsksAll servers r.entries → AsksAll servers (after_tick now r).entries
asked_after_tick servers now r all = asks_all_on servers r.entries (after_tick now r).entries (stays_ticked (max r.clock now) r.entries) all

-- the same record, by an equation
pub asked_same : (servers : List ℕ) (old new : RequestsState) → new.entries ≡ old.entries → AsksAll servers old.entries → AsksAll servers new.entries
asked_same servers old new same all = subst (AsksAll servers) (sym same) all
