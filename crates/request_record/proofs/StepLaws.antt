-- What the steps of the record leave as it is.
use Rattle.std.proofs.Common.{◌≡◌, ℕ, ◌+◌, Bool, true, false, cond, List, [], ◌∷◌, ◌++◌, Option, Some, None, map, refl, ap, ◌∙◌, arith}
use Rattle.std.proofs.lemmas.List.Sums.{sum_by-cons}
use Rattle.wire.specs.declared.message.Message.{Message}
use Rattle.request_record.specs.declared.requests.Asked.{Asked}
use Rattle.request_record.specs.declared.requests.Request.{Request}
use Rattle.request_record.specs.Record.{RequestsState, TakesNext, asked_all, asked_more, at, counted_at, counts_at, is_outstanding, outstanding_count, ticked_one}
use Rattle.request_record.specs.Asking.{after_message}

-- Requests that are asked one after another are asked as one list.
pub asked_joined : (asks more : List (ℕ × Asked)) (r : RequestsState) → asked_all (asks ++ more) r ≡ asked_all more (asked_all asks r)
asked_joined [] more r = refl
asked_joined (ask ∷ asks) more r = asked_joined asks more (asked_more ask.0 ask.1 r)

-- A request that is sent is as it was.
pub sent_entries : (old new : RequestsState) (o : Option ℕ) → TakesNext old o new → new.entries ≡ old.entries
sent_entries old new None t = ap (λ (r : RequestsState). r.entries) t.1
sent_entries old new (Some position) t = ap (λ (r : RequestsState). r.entries) t.1

-- A message that does not count changes no request.
pub uncounted : (from : ℕ) (m : Message) (now : ℕ) (s : RequestsState) → counts_at from m s ≡ None → (after_message from m now s).entries ≡ s.entries
uncounted from m now s e = ap (λ (o : Option ℕ). (counted_at m (at now s) o).entries) e

-- ---- requests that nobody waits for

-- One for a request that waits.
abbrev pub waiting_one : Request → ℕ
waiting_one r = cond (is_outstanding r.outcome) 1 0

-- The requests that wait are counted one by one.
pub count_cons : (r : Request) (rs : List Request) → outstanding_count (r ∷ rs) ≡ waiting_one r + outstanding_count rs
count_cons r rs = sum_by-cons waiting_one r rs

-- A tick leaves a request that waits for nothing.
pub quiet_ticked : (now : ℕ) (r : Request) → is_outstanding r.outcome ≡ false → ticked_one now r ≡ r
quiet_ticked now r quiet = rw quiet refl

-- Where no request is counted, none waits.
pub first_quiet : (r : Request) → waiting_one r ≡ 0 → is_outstanding r.outcome ≡ false
first_quiet r none = by (is_outstanding r.outcome) refl
  where
    by : (b : Bool) → is_outstanding r.outcome ≡ b → b ≡ false
    by true e = absurd (let one : waiting_one r ≡ 1 = ap (λ (b : Bool). cond b 1 0) e in omega (arith, none, one))
    by false e = refl

-- A tick leaves requests that wait for nothing.
pub all_quiet_ticked : (now : ℕ) (rs : List Request) → outstanding_count rs ≡ 0 → map (ticked_one now) rs ≡ rs
all_quiet_ticked now [] none = refl
all_quiet_ticked now (x ∷ xs) none =
    let c = count_cons x xs in
    let head : ticked_one now x ≡ x = quiet_ticked now x (first_quiet x (omega (arith, c, none))) in
    let tail : map (ticked_one now) xs ≡ xs = all_quiet_ticked now xs (omega (arith, c, none)) in
    ap (λ (y : Request). y ∷ map (ticked_one now) xs) head ∙ ap (λ (l : List Request). x ∷ l) tail
