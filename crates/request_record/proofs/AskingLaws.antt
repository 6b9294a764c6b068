-- No server is asked the same thing twice, as the record goes on.
use Rattle.std.proofs.Common.{◌≡◌, ℕ, zero, suc, ◌+◌, ◌<◌, Bool, true, false, cond, List, [], ◌∷◌, ◌++◌, length, set, map, max, Option, Some, None, refl, sym, ap, subst, ◌∙◌, arith, inl, inr}
use Rattle.std.specs.Prelude.{slice_get}
use Rattle.std.proofs.lemmas.Bool.{cases_lt}
use Rattle.std.proofs.lemmas.List.{length-append}
use Rattle.std.proofs.lemmas.Option.{slice_get_within}
use Rattle.lemmas.proofs.Positions.{get_push, get_last}
use Rattle.wire.specs.declared.message.Body.{Body}
use Rattle.wire.specs.declared.message.Message.{Message}
use Rattle.request_record.specs.declared.requests.Asked.{Asked}
use Rattle.request_record.specs.declared.requests.Outcome.{Outcome}
use Rattle.request_record.specs.declared.requests.Outcome.TheVariants.{Answered, Lost}
use Rattle.request_record.specs.declared.requests.Request.{Request}
use Rattle.request_record.specs.Record.{RequestsState, at, answered_in, counted_at, counts_at, first_request, is_lost_at, is_resent_at, resent_one, ticked_one, with_outcome}
use Rattle.request_record.specs.Asking.{AreApart, AsksOnce, after_message, after_tick}

-- the request asks the same of the same server
abbrev AsksSame : Request → Request → Type 0
AsksSame a b = (a.server ≡ b.server) × (a.asked ≡ b.asked)

-- each request asks what the one at its position asked
abbrev AskSame : List Request → List Request → Type 0
AskSame old new = (i : ℕ) (b : Request) → slice_get new i ≡ Some b → (a : Request) × (slice_get old i ≡ Some a) × AsksSame a b

once_same : (old new : List Request) → AskSame old new → AsksOnce old → AsksOnce new
once_same old new same once i j a b lt first second servers =
    let f = same i a first in
    let s = same j b second in
    let apart : AreApart f.0.asked s.0.asked = once i j f.0 s.0 lt f.1 s.1 (f.2.0 ∙ servers ∙ sym s.2.0) in
    subst (λ (x : Asked). AreApart x b.asked) f.2.1 (subst (λ (x : Asked). AreApart f.0.asked x) s.2.1 apart)

-- ---- answers

same_set : (old : List Request) (position : ℕ) (r : Request) (o : Outcome) → slice_get old position ≡ Some r → AskSame old (set old position (with_outcome r o))
same_set [] position r o there i b e = absurd cc
same_set (x ∷ xs) zero r o there zero b e = let is : x ≡ r = cc in let new : with_outcome r o ≡ b = cc in (x, refl, (ap (λ (q : Request). q.server) is ∙ ap (λ (q : Request). q.server) new, ap (λ (q : Request). q.asked) is ∙ ap (λ (q : Request). q.asked) new))
same_set (x ∷ xs) zero r o there (suc i) b e = (b, e, (refl, refl))
same_set (x ∷ xs) (suc position) r o there zero b e = (b, e, (refl, refl))
same_set (x ∷ xs) (suc position) r o there (suc i) b e = same_set xs position r o there i b e

same_all : (old : List Request) → AskSame old old
same_all old i b e = (b, e, (refl, refl))

same_answered : (old : List Request) (position : ℕ) (o : Option Request) (body : Body) → slice_get old position ≡ o → AskSame old (answered_in old position o body)
same_answered old position None body there = same_all old
same_answered old position (Some r) body there = same_set old position r (Answered body) there

same_counted : (m : Message) (r : RequestsState) (o : Option ℕ) → AskSame r.entries (counted_at m r o).entries
same_counted m r None = same_all r.entries
same_counted m r (Some position) = same_answered r.entries position (slice_get r.entries position) m.body refl

pub once_answered : (from now : ℕ) (m : Message) (r : RequestsState) → AsksOnce r.entries → AsksOnce (after_message from m now r).entries
once_answered from now m r once = once_same r.entries (after_message from m now r).entries (same_counted m (at now r) (counts_at from m (at now r))) once

-- ---- ticks

same_ticked_one : (now : ℕ) (r : Request) → AsksSame r (ticked_one now r)
same_ticked_one now r = go (is_lost_at now r) (is_resent_at now r)
  where
    go : (lost again : Bool) → AsksSame r (cond lost (with_outcome r Lost) (cond again (resent_one now r) r))
    go true again = (refl, refl)
    go false true = (refl, refl)
    go false false = (refl, refl)

same_ticked : (now : ℕ) (old : List Request) → AskSame old (map (ticked_one now) old)
same_ticked now [] i b e = absurd cc
same_ticked now (x ∷ xs) zero b e =
    let is : ticked_one now x ≡ b = cc in
    let same = same_ticked_one now x in
    (x, refl, (same.0 ∙ ap (λ (q : Request). q.server) is, same.1 ∙ ap (λ (q : Request). q.asked) is))
same_ticked now (x ∷ xs) (suc i) b e = same_ticked now xs i b e

pub once_ticked : (now : ℕ) (r : RequestsState) → AsksOnce r.entries → AsksOnce (after_tick now r).entries
once_ticked now r once = once_same r.entries (after_tick now r).entries (same_ticked (max r.clock now) r.entries) once

-- ---- asking

pub once_asked : (server now : ℕ) (asked : Asked) (entries : List Request) → ((i : ℕ) (a : Request) → slice_get entries i ≡ Some a → a.server ≡ server → AreApart a.asked asked) → AsksOnce entries → AsksOnce (entries ++ first_request server asked now ∷ [])
once_asked server now asked entries apart once i j a b lt first second servers =
    let new : Request = first_request server asked now in
    let len : length (entries ++ new ∷ []) ≡ length entries + 1 = length-append entries (new ∷ []) in
    let within : j < length (entries ++ new ∷ []) = slice_get_within (entries ++ new ∷ []) j b second in
    let before : i < length entries = omega (arith, lt, within, len) in
    let was : slice_get entries i ≡ Some a = sym (get_push entries new i before) ∙ first in
    elim (cases_lt j (length entries)) [
      | inl inside ↦ once i j a b lt was (sym (get_push entries new j inside) ∙ second) servers
      | inr le ↦
          let last : j ≡ length entries = omega (arith, le, within, len) in
          let is : Some new ≡ Some b = sym (get_last entries new) ∙ sym (ap (slice_get (entries ++ new ∷ [])) last) ∙ second in
          let same : new ≡ b = cc in
          subst (λ (q : Request). AreApart a.asked q.asked) same (apart i a was (servers ∙ sym (ap (λ (q : Request). q.server) same)))
    ]
