-- Requests that were answered, or lost.
use Rattle.std.proofs.Common.{◌≡◌, ◌≢◌, ◌⊎◌, ℕ, zero, suc, true, cond, List, [], ◌∷◌, Some, refl, sym, ap, ◌∙◌, inl, inr, arith}
use Rattle.std.specs.Prelude.{Contains, slice_get}
use Rattle.std.proofs.lemmas.Bool.{cases_eq}
use Rattle.std.proofs.lemmas.List.Sums.{sum_by-cons}
use Rattle.std.proofs.lemmas.Option.{same_Some}
use Rattle.wire.specs.declared.message.Body.{Body}
use Rattle.request_record.specs.declared.requests.Asked.TheVariants.{Aborting, Holdings, Reading}
use Rattle.request_record.specs.declared.requests.Outcome.{Outcome}
use Rattle.request_record.specs.declared.requests.Outcome.TheVariants.{Answered, Lost, Outstanding, Unawaited}
use Rattle.request_record.specs.declared.requests.Request.{Request}
use Rattle.request_record.specs.Record.{is_outstanding, outstanding_count}
use Rattle.answer_laws.specs.Asking.Asked.{AsksAll}
use Rattle.answer_laws.specs.Enough.Answers.{Lists, TellsShare, WasLost}

-- ---- none waits

abbrev waits_in : Request → ℕ
waits_in r = cond (is_outstanding r.outcome) 1 0

waits_one : (r : Request) → is_outstanding r.outcome ≡ true → waits_in r ≡ 1
waits_one r e = rw e refl

none_waits : (es : List Request) (i : ℕ) (r : Request) → outstanding_count es ≡ 0 → slice_get es i ≡ Some r → is_outstanding r.outcome ≡ true → ⊥
none_waits [] i r none e waits = absurd cc
none_waits (x ∷ xs) zero r none e waits =
    omega (arith, none, sum_by-cons waits_in x xs, waits_one x (ap (λ (y : Request). is_outstanding y.outcome) (same_Some x r e) ∙ waits))
none_waits (x ∷ xs) (suc i) r none e waits = none_waits xs i r (omega (arith, none, sum_by-cons waits_in x xs)) e waits

-- ---- one was lost, or none

is_lost : (o : Outcome) → (o ≡ Lost) ⊎ (o ≢ Lost)
is_lost Lost = inl refl
is_lost Outstanding = inr (λ e. absurd cc)
is_lost Unawaited = inr (λ e. absurd cc)
is_lost (Answered said) = inr (λ e. absurd cc)

later_lost : (r : Request) (rs : List Request) (server : ℕ) → WasLost rs server → WasLost (r ∷ rs) server
later_lost r rs server w = record { position = suc w.position; request = w.request; there = w.there; of_server = w.of_server; lost = w.lost }

first_or_later : (r : Request) (rs : List Request) (server : ℕ) → (r.server ≡ server → r.outcome ≡ Lost → ⊥) → (WasLost rs server → ⊥) → WasLost (r ∷ rs) server → ⊥
first_or_later r rs server here later w = by w.position w.there where
  by : (position : ℕ) → slice_get (r ∷ rs) position ≡ Some w.request → ⊥
  by zero e =
      let same : r ≡ w.request = same_Some r w.request e in
      here (ap (λ (q : Request). q.server) same ∙ w.of_server) (ap (λ (q : Request). q.outcome) same ∙ w.lost)
  by (suc position) e = later record { position = position; request = w.request; there = e; of_server = w.of_server; lost = w.lost }

pub lost_or_not : (entries : List Request) (server : ℕ) → WasLost entries server ⊎ (WasLost entries server → ⊥)
lost_or_not [] server = inr (λ w. nothing w.position w.request w.there) where
  nothing : (position : ℕ) (r : Request) → slice_get [] position ≡ Some r → ⊥
  nothing position r e = absurd cc
lost_or_not (r ∷ rs) server = elim (lost_or_not rs server) [
  | inl later ↦ inl (later_lost r rs server later)
  | inr none ↦ elim (cases_eq r.server server) [
    | inr other ↦ inr (first_or_later r rs server (λ same lost. other same) none)
    | inl same ↦ elim (is_lost r.outcome) [
      | inl lost ↦ inl record { position = 0; request = r; there = refl; of_server = same; lost = lost }
      | inr not_lost ↦ inr (first_or_later r rs server (λ also lost. not_lost lost) none)
    ]
  ]
]

-- ---- what waits no more, was not lost and is no request to abort, was answered

abbrev IsAnswered : Outcome → Type 0
IsAnswered o = (said : Body) × (o ≡ Answered said)

answered_by : (o : Outcome) → (is_outstanding o ≡ true → ⊥) → o ≢ Lost → o ≢ Unawaited → IsAnswered o
answered_by (Answered said) quiet not_lost awaited = (said, refl)
answered_by Outstanding quiet not_lost awaited = absurd (quiet refl)
answered_by Lost quiet not_lost awaited = absurd (not_lost refl)
answered_by Unawaited quiet not_lost awaited = absurd (awaited refl)

no_abort : (share : ℕ) → Holdings ≡ Aborting share → ⊥
no_abort share e = absurd cc

pub reads_no_abort : (num offset len share : ℕ) → Reading num offset len ≡ Aborting share → ⊥
reads_no_abort num offset len share e = absurd cc

-- what the server answered, that was asked what it holds
pub record IsAnsweredAsk (entries : List Request) (server num : ℕ) : Type 0 where
  pub position : ℕ
  pub request : Request
  pub there : slice_get entries position ≡ Some request
  pub of_server : request.server ≡ server
  pub asked : request.asked ≡ Holdings
  pub said : Body
  pub answer : request.outcome ≡ Answered said
  pub lists : Lists said num

pub answered_ask : (entries : List Request) (servers : List ℕ) (server num : ℕ) (share : List ℕ) → outstanding_count entries ≡ 0 → AsksAll servers entries → Contains servers server
    → TellsShare entries server num share → (WasLost entries server → ⊥) → IsAnsweredAsk entries server num
answered_ask entries servers server num share quiet asks among tells none =
    let ask = asks.asked server among in
    let answer = answered_by ask.request.outcome (none_waits entries ask.position ask.request quiet ask.there)
    (λ lost. none record { position = ask.position; request = ask.request; there = ask.there; of_server = ask.of_server; lost = lost })
    (λ unawaited. let aborts = asks.awaited ask.position ask.request ask.there unawaited in no_abort aborts.0 (sym ask.asked ∙ aborts.1)) in
    record {
      position = ask.position;
      request = ask.request;
      there = ask.there;
      of_server = ask.of_server;
      asked = ask.asked;
      said = answer.0;
      answer = answer.1;
      lists = tells.lists ask.position ask.request answer.0 ask.there ask.of_server ask.asked answer.1;
    }
