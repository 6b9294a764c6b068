-- What was answered stays in the record of requests.
use Rattle.std.proofs.Common.{◌≡◌, ℕ, zero, suc, Bool, true, false, cond, List, [], ◌∷◌, ◌++◌, Option, Some, None, map, refl, sym, ap, subst, ◌∙◌, true≢false}
use Rattle.std.specs.Prelude.{slice_get, slice_set, max}
use Rattle.std.proofs.lemmas.Option.{slice_get_within}
use Rattle.lemmas.proofs.Positions.{get_push}
use Rattle.request_record.proofs.StepLaws.{quiet_ticked}
pub use Rattle.request_record.proofs.StepLaws.{uncounted}
use Rattle.wire.specs.declared.message.Body.{Body}
use Rattle.wire.specs.declared.message.Message.{Message}
use Rattle.request_record.specs.declared.requests.Asked.{Asked}
use Rattle.request_record.specs.declared.requests.Outcome.TheVariants.{Answered, Lost}
use Rattle.request_record.specs.declared.requests.Request.{Request}
use Rattle.request_record.specs.Record.{RequestsState, answered_in, asked_all, asked_more, at, counted_at, counts_at, first_request, is_lost_at, is_outstanding, is_resent_at, resent_one, ticked_one, with_outcome}
use Rattle.request_record.specs.Asking.{after_message, after_tick}
use Rattle.request_record.proofs.RecordLaws.{counts_is}

-- the request at a position asked the same of the same server
pub record WasAsked (es : List Request) (i : ℕ) (n : Request) : Type 0 where
  pub request : Request
  pub there : slice_get es i ≡ Some request
  pub same : request.asked ≡ n.asked
  pub of_server : request.server ≡ n.server

-- what waits no more stays at its position
abbrev pub StaysTo : List Request → List Request → Type 0
StaysTo es ns = (i : ℕ) (r : Request) → slice_get es i ≡ Some r → is_outstanding r.outcome ≡ false → slice_get ns i ≡ Some r

-- ---- asking

stays_push : (es : List Request) (n : Request) → StaysTo es (es ++ n ∷ [])
stays_push es n i r e quiet = get_push es n i (slice_get_within es i r e) ∙ e

pub stays_asked : (asks : List (ℕ × Asked)) (s : RequestsState) → StaysTo s.entries (asked_all asks s).entries
stays_asked [] s i r e quiet = e
stays_asked (ask ∷ asks) s i r e quiet =
    stays_asked asks (asked_more ask.0 ask.1 s) i r (stays_push s.entries (first_request ask.0 ask.1 s.clock) i r e quiet) quiet

-- ---- answers

stays_set : (es : List Request) (position : ℕ) (q : Request) (body : Body) → slice_get es position ≡ Some q → is_outstanding q.outcome ≡ true → StaysTo es (slice_set es position (with_outcome q (Answered body)))
stays_set [] position q body there waits i r e quiet = absurd cc
stays_set (x ∷ xs) zero q body there waits zero r e quiet =
    let one : x ≡ q = cc in
    let two : x ≡ r = cc in
    absurd (true≢false (sym waits ∙ ap (λ (y : Request). is_outstanding y.outcome) (sym one ∙ two) ∙ quiet))
stays_set (x ∷ xs) zero q body there waits (suc i) r e quiet = e
stays_set (x ∷ xs) (suc position) q body there waits zero r e quiet = e
stays_set (x ∷ xs) (suc position) q body there waits (suc i) r e quiet = stays_set xs position q body there waits i r e quiet

stays_in : (es : List Request) (position : ℕ) (q : Request) (body : Body) (o : Option Request) → slice_get es position ≡ Some q → is_outstanding q.outcome ≡ true → slice_get es position ≡ o → StaysTo es (answered_in es position o body)
stays_in es position q body None there waits e = λ i r f quiet. f
stays_in es position q body (Some p) there waits e =
    let same : q ≡ p = let k : Some q ≡ Some p = sym there ∙ e in cc in
    stays_set es position p body e (subst (λ (x : Request). is_outstanding x.outcome ≡ true) same waits)

stays_counted : (from : ℕ) (m : Message) (s : RequestsState) (o : Option ℕ) → counts_at from m s ≡ o → StaysTo s.entries (counted_at m s o).entries
stays_counted from m s None e = λ i r f quiet. f
stays_counted from m s (Some position) e =
    let a = counts_is from m s position e in
    stays_in s.entries position a.request m.body (slice_get s.entries position) a.there a.waits refl

pub stays_message : (from : ℕ) (m : Message) (now : ℕ) (s : RequestsState) → StaysTo s.entries (after_message from m now s).entries
stays_message from m now s = stays_counted from m (at now s) (counts_at from m (at now s)) refl

-- ---- ticks

pub stays_ticked : (now : ℕ) (es : List Request) → StaysTo es (map (ticked_one now) es)
stays_ticked now [] i r e quiet = absurd cc
stays_ticked now (x ∷ xs) zero r e quiet =
    let same : x ≡ r = cc in
    ap Some (quiet_ticked now x (subst (λ (y : Request). is_outstanding y.outcome ≡ false) (sym same) quiet) ∙ same)
stays_ticked now (x ∷ xs) (suc i) r e quiet = stays_ticked now xs i r e quiet

pub stays_tick : (now : ℕ) (s : RequestsState) → StaysTo s.entries (after_tick now s).entries
stays_tick now s = stays_ticked (max s.clock now) s.entries

-- ---- what is asked

-- each request was there, and asked the same
abbrev pub AskedAlike : List Request → List Request → Type 0
AskedAlike es ns = (i : ℕ) (n : Request) → slice_get ns i ≡ Some n → WasAsked es i n

alike_set : (es : List Request) (position : ℕ) (q : Request) (body : Body) → slice_get es position ≡ Some q → (i : ℕ) (n : Request) → slice_get (slice_set es position (with_outcome q (Answered body))) i ≡ Some n → WasAsked es i n
alike_set [] position q body there i n e = absurd cc
alike_set (x ∷ xs) zero q body there zero n e =
    let one : x ≡ q = cc in
    let two : with_outcome q (Answered body) ≡ n = cc in
    record { request = x; there = refl; same = ap (λ (y : Request). y.asked) one ∙ ap (λ (y : Request). y.asked) two; of_server = ap (λ (y : Request). y.server) one ∙ ap (λ (y : Request). y.server) two }
alike_set (x ∷ xs) zero q body there (suc i) n e = record { request = n; there = e; same = refl; of_server = refl }
alike_set (x ∷ xs) (suc position) q body there zero n e = let two : x ≡ n = cc in record { request = x; there = refl; same = ap (λ (y : Request). y.asked) two; of_server = ap (λ (y : Request). y.server) two }
alike_set (x ∷ xs) (suc position) q body there (suc i) n e = let w = alike_set xs position q body there i n e in record { request = w.request; there = w.there; same = w.same; of_server = w.of_server }

alike_in : (es : List Request) (position : ℕ) (body : Body) (o : Option Request) → slice_get es position ≡ o → AskedAlike es (answered_in es position o body)
alike_in es position body None e = λ i n f. record { request = n; there = f; same = refl; of_server = refl }
alike_in es position body (Some p) e = alike_set es position p body e

alike_counted : (m : Message) (s : RequestsState) (o : Option ℕ) → AskedAlike s.entries (counted_at m s o).entries
alike_counted m s None = λ i n f. record { request = n; there = f; same = refl; of_server = refl }
alike_counted m s (Some position) = alike_in s.entries position m.body (slice_get s.entries position) refl

pub alike_message : (from : ℕ) (m : Message) (now : ℕ) (s : RequestsState) → AskedAlike s.entries (after_message from m now s).entries
alike_message from m now s = alike_counted m (at now s) (counts_at from m (at now s))

ticked_asked : (now : ℕ) (r : Request) → (ticked_one now r).asked ≡ r.asked
ticked_asked now r = by (is_lost_at now r) (is_resent_at now r)
  where
    by : (lost again : Bool) → (cond lost (with_outcome r Lost) (cond again (resent_one now r) r)).asked ≡ r.asked
    by true again = refl
    by false true = refl
    by false false = refl

ticked_server : (now : ℕ) (r : Request) → (ticked_one now r).server ≡ r.server
ticked_server now r = by (is_lost_at now r) (is_resent_at now r)
  where
    by : (lost again : Bool) → (cond lost (with_outcome r Lost) (cond again (resent_one now r) r)).server ≡ r.server
    by true again = refl
    by false true = refl
    by false false = refl

alike_ticked : (now : ℕ) (es : List Request) (i : ℕ) (n : Request) → slice_get (map (ticked_one now) es) i ≡ Some n → WasAsked es i n
alike_ticked now [] i n e = absurd cc
alike_ticked now (x ∷ xs) zero n e = let two : ticked_one now x ≡ n = cc in record { request = x; there = refl; same = sym (ticked_asked now x) ∙ ap (λ (y : Request). y.asked) two; of_server = sym (ticked_server now x) ∙ ap (λ (y : Request). y.server) two }
alike_ticked now (x ∷ xs) (suc i) n e = let w = alike_ticked now xs i n e in record { request = w.request; there = w.there; same = w.same; of_server = w.of_server }

pub alike_tick : (now : ℕ) (s : RequestsState) → AskedAlike s.entries (after_tick now s).entries
alike_tick now s = alike_ticked (max s.clock now) s.entries
