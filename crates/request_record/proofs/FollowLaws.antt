-- How a record goes on: by what is asked, by a message and by a tick.
use Rattle.lemmas.proofs.Bools.{both}
use Rattle.lemmas.proofs.Numbers.{same_number}
use Rattle.lemmas.proofs.Positions.{get_left, get_other, get_pushed, get_set, set_cases}
use Rattle.std.proofs.Common.{◌≡◌, ℕ, zero, suc, ◌+◌, ◌-◌, List, [], ◌∷◌, Bool, true, false, Option, Some, None, refl, sym, subst, ap, ◌∙◌, inl, inr, ◌⊎◌, arith, true≢false}
use Rattle.std.specs.Prelude.{◌==◌, ◌&&◌, max, nat_le, not, slice_get, slice_set, option_map, if◌then◌else◌}
use Rattle.std.proofs.lemmas.Bool.{cases_eq}
use Rattle.std.proofs.lemmas.Option.{same_Some, slice_get-map}
use Rattle.wire.specs.declared.message.Body.{Body}
use Rattle.wire.specs.declared.message.Message.{Message}
use Rattle.request_record.specs.declared.requests.Asked.{Asked}
use Rattle.request_record.specs.declared.requests.Asked.TheVariants.{Holdings, Allocation, Writing, Closing, Reading, Aborting}
use Rattle.request_record.specs.declared.requests.Outcome.{Outcome}
use Rattle.request_record.specs.declared.requests.Outcome.TheVariants.{Answered, Lost}
use Rattle.request_record.specs.declared.requests.Request.{Request}
use Rattle.request_record.specs.Asking.{after_message, after_tick}
use Rattle.request_record.specs.Limits.{lost_age}
use Rattle.request_record.specs.Record.{RequestsState, age_of, answered_in, asked_all, asked_more, at, awaits_at, counted, counted_at, first_outcome, first_request, fits, is_lost_at, is_outstanding, is_resent_at, resent_one, ticked, ticked_one, with_outcome, without, requests_state}
use Rattle.request_record.specs.Follow.{Follows, IsSaid, Nothing, Said, StillAsks}

itself : (entries : List Request) (position : ℕ) (r : Request) → slice_get entries position ≡ Some r → StillAsks entries position r
itself entries position r e = record { request = r; at = e; server = refl; asked = refl; answered = λ said o. o }

-- the same entries
pub follows_same : (New : Said) (r s : RequestsState) → s.session ≡ r.session → s.entries ≡ r.entries → Follows New r s
follows_same New r s session entries = record {
  session_is = session;
  keeps = λ position q e. itself s.entries position q (ap (λ (l : List Request). slice_get l position) entries ∙ e);
  answers = λ position t said e o. inl (record { request = t; at = ap (λ (l : List Request). slice_get l position) (sym entries) ∙ e; answered = o; server = refl; asked = refl });
}

pub follows_itself : (New : Said) (r : RequestsState) → Follows New r r
follows_itself New r = follows_same New r r refl refl

pub follows_on : (New : Said) (a b c : RequestsState) → Follows New a b → Follows Nothing b c → Follows New a c
follows_on New a b c f g = record {
  session_is = g.session_is ∙ f.session_is;
  keeps = λ position r e.
      let s = f.keeps position r e in
      let t = g.keeps position s.request s.at in
      record { request = t.request; at = t.at; server = t.server ∙ s.server; asked = t.asked ∙ s.asked; answered = λ said o. t.answered said (s.answered said o) };
  answers = λ position s said e o. elim (g.answers position s said e o) [
    | inl w ↦ elim (f.answers position w.request said w.at w.answered) [
      | inl v ↦ inl (record { request = v.request; at = v.at; answered = v.answered; server = v.server ∙ w.server; asked = v.asked ∙ w.asked })
      | inr n ↦ inr (subst (λ (x : Asked). New position s.server x said) w.asked (subst (λ (x : ℕ). New position x w.request.asked said) w.server n))
    ]
    | inr n ↦ absurd n
  ];
}

not_answered : (asked : Asked) (said : Body) → first_outcome asked ≡ Answered said → ⊥
not_answered Holdings said e = absurd cc
not_answered (Allocation share len) said e = absurd cc
not_answered (Writing share offset len) said e = absurd cc
not_answered (Closing share) said e = absurd cc
not_answered (Reading share offset len) said e = absurd cc
not_answered (Aborting share) said e = absurd cc

-- what waits for its answer has none
not_outstanding : (o : Outcome) (said : Body) → is_outstanding o ≡ true → o ≡ Answered said → ⊥
not_outstanding o said waits answered = true≢false (sym waits ∙ ap is_outstanding answered)

follows_more : (server : ℕ) (asked : Asked) (r : RequestsState) → Follows Nothing r (asked_more server asked r)
follows_more server asked r = record {
  session_is = refl;
  keeps = λ position q e. record { request = q; at = get_left r.entries (first_request server asked r.clock ∷ []) position q e; server = refl; asked = refl; answered = λ said o. o };
  answers = λ position s said e o. elim (get_pushed r.entries (first_request server asked r.clock) s position e) [
    | inl h ↦ inl (record { request = s; at = h; answered = o; server = refl; asked = refl })
    | inr h ↦ absurd (not_answered asked said (ap (λ (x : Request). x.outcome) h.1 ∙ o))
  ];
}

pub follows_asks : (asks : List (ℕ × Asked)) (r : RequestsState) → Follows Nothing r (asked_all asks r)
follows_asks [] r = follows_itself Nothing r
follows_asks (ask ∷ asks) r = follows_on Nothing r (asked_more ask.0 ask.1 r) (asked_all asks (asked_more ask.0 ask.1 r)) (follows_more ask.0 ask.1 r) (follows_asks asks (asked_more ask.0 ask.1 r))

-- ---- a message

some_number : (n : ℕ) → not (n == 0) ≡ true → n ≡ n - 1 + 1
some_number zero e = absurd cc
some_number (suc n) e = omega arith

module _ (from : ℕ) (m : Message) (r : RequestsState) where
  abbrev answered_at : Option Request → RequestsState
  answered_at o = requests_state r.session (answered_in r.entries (m.number - 1) o m.body) (without (m.number - 1) r.outgoing) r.clock

  answered_one : (o : Option Request) → m.session ≡ r.session → m.number ≡ m.number - 1 + 1 → slice_get r.entries (m.number - 1) ≡ o → awaits_at from m.body o ≡ true
      → Follows (IsSaid from m r.session) r (answered_at o)
  answered_one None session number at waits = absurd cc
  answered_one (Some q) session number at waits =
      let two = both (is_outstanding q.outcome && (q.server == from)) (fits q.asked m.body) waits in
      let outstanding : is_outstanding q.outcome ≡ true = (both (is_outstanding q.outcome) (q.server == from) two.0).0 in
      let server : q.server ≡ from = same_number q.server from (both (is_outstanding q.outcome) (q.server == from) two.0).1 in
      let new : Request = with_outcome q (Answered m.body) in
      record {
        session_is = refl;
        keeps = λ position p e. elim (cases_eq position (m.number - 1)) [
          | inl here ↦ (let same : q ≡ p = same_Some q p (sym at ∙ ap (slice_get r.entries) (sym here) ∙ e) in
              record {
                request = new;
                at = ap (slice_get (slice_set r.entries (m.number - 1) new)) here ∙ get_set r.entries (m.number - 1) new q at;
                server = ap (λ (x : Request). x.server) same;
                asked = ap (λ (x : Request). x.asked) same;
                answered = λ said o. absurd (not_outstanding q.outcome said outstanding (ap (λ (x : Request). x.outcome) same ∙ o));
              })
          | inr other ↦ record { request = p; at = get_other r.entries (m.number - 1) position new other ∙ e; server = refl; asked = refl; answered = λ said o. o }
        ];
        answers = λ position s said e o. elim (set_cases r.entries (m.number - 1) position new s e) [
          | inl h ↦
              let body : m.body ≡ said = (let is : Answered m.body ≡ Answered said = ap (λ (x : Request). x.outcome) h.1 ∙ o in cc) in
              let asked : s.asked ≡ q.asked = ap (λ (x : Request). x.asked) (sym h.1) in
              inr record {
                session_is = session;
                number_is = number ∙ ap (λ (n : ℕ). n + 1) (sym h.0);
                server_is = ap (λ (x : Request). x.server) (sym h.1) ∙ server;
                body_is = body;
                fitting = ap (λ (x : Asked). fits x said) asked ∙ ap (fits q.asked) (sym body) ∙ two.1;
              }
          | inr h ↦ inl (record { request = s; at = h.1; answered = o; server = refl; asked = refl })
        ];
      }

  pub follows_counted : Follows (IsSaid from m r.session) r (counted from m r)
  follows_counted = by ((m.session == r.session) && not (m.number == 0) && awaits_at from m.body (slice_get r.entries (m.number - 1))) refl where
    by : (t : Bool) → ((m.session == r.session) && not (m.number == 0) && awaits_at from m.body (slice_get r.entries (m.number - 1))) ≡ t
        → Follows (IsSaid from m r.session) r (counted_at m r (if t then Some (m.number - 1) else None))
    by false e = follows_itself (IsSaid from m r.session) r
    by true e =
        let last = both ((m.session == r.session) && not (m.number == 0)) (awaits_at from m.body (slice_get r.entries (m.number - 1))) e in
        let first = both (m.session == r.session) (not (m.number == 0)) last.0 in
        answered_one (slice_get r.entries (m.number - 1)) (same_number m.session r.session first.0) (some_number m.number first.1) refl last.1

-- the record after a message
pub follows_message : (from now : ℕ) (m : Message) (r : RequestsState) → Follows (IsSaid from m r.session) r (after_message from m now r)
follows_message from now m r = (let f = follows_counted from m (at now r) in record { session_is = f.session_is; keeps = f.keeps; answers = f.answers })

-- ---- a tick

-- a request after a tick
pub record Ticks (old new : Request) : Type 0 where
  pub server : new.server ≡ old.server
  pub asked : new.asked ≡ old.asked
  pub outcome : (new.outcome ≡ old.outcome) ⊎ (new.outcome ≡ Lost)
  pub answered : (said : Body) → old.outcome ≡ Answered said → new.outcome ≡ Answered said

pub ticks_one : (now : ℕ) (r : Request) → Ticks r (ticked_one now r)
ticks_one now r = by (is_lost_at now r) refl (is_resent_at now r) where
  by : (lost : Bool) → is_lost_at now r ≡ lost → (again : Bool) → Ticks r (if lost then with_outcome r Lost else (if again then resent_one now r else r))
  by true e again = record {
    server = refl;
    asked = refl;
    outcome = inr refl;
    answered = λ said o. absurd (not_outstanding r.outcome said (both (is_outstanding r.outcome) (nat_le lost_age (age_of now r)) e).0 o);
  }
  by false e true = record { server = refl; asked = refl; outcome = inl refl; answered = λ said o. o }
  by false e false = record { server = refl; asked = refl; outcome = inl refl; answered = λ said o. o }

-- a request that stands in a record after a tick
pub some_of : (now : ℕ) (o : Option Request) (s : Request) → option_map (ticked_one now) o ≡ Some s → (r : Request) × (o ≡ Some r) × (s ≡ ticked_one now r)
some_of now None s e = absurd cc
some_of now (Some r) s e = (r, refl, same_Some s (ticked_one now r) (sym e))

follows_ticked : (now : ℕ) (r : RequestsState) → Follows Nothing r (ticked now r)
follows_ticked now r = record {
  session_is = refl;
  keeps = λ position q e.
      let t = ticks_one now q in
      record { request = ticked_one now q; at = slice_get-map (ticked_one now) r.entries position ∙ ap (option_map (ticked_one now)) e; server = t.server; asked = t.asked; answered = t.answered };
  answers = λ position s said e o.
      let was = some_of now (slice_get r.entries position) s (sym (slice_get-map (ticked_one now) r.entries position) ∙ e) in
      let t : Ticks was.0 s = subst (Ticks was.0) (sym was.2) (ticks_one now was.0) in
      elim t.outcome [
        | inl same ↦ inl (record { request = was.0; at = was.1; answered = sym same ∙ o; server = sym t.server; asked = sym t.asked })
        | inr lost ↦ (let never : Lost ≡ Answered said = sym lost ∙ o in absurd cc)
      ];
}

pub follows_tick : (now : ℕ) (r : RequestsState) → Follows Nothing r (after_tick now r)
follows_tick now r = follows_ticked (max r.clock now) r
