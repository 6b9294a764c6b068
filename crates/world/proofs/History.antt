-- How a server's history goes on: where the server goes on, and where one message more is sent.
use Rattle.std.proofs.Common.{◌≡◌, ℕ, ◌<◌, ◌≤◌, List, [], ◌∷◌, ◌++◌, Bool, false, length, nat_lt, Some, sym, subst, ap, ◌∙◌, inl, inr, arith}
use Rattle.std.specs.Prelude.{slice_get, if◌then◌else◌}
use Rattle.std.proofs.lemmas.Bool.{cases_lt, le-ltb, lt-ltb}
use Rattle.std.proofs.lemmas.List.Elements.{Contains-append_left}
use Rattle.std.proofs.lemmas.Option.{slice_get_within}
use Rattle.wire.specs.declared.message.Message.{Message}
use Rattle.wire.specs.Frames.{IsBodyOf}
use Rattle.share_store.specs.Memory.{MemoryState}
use Rattle.share_store.specs.Shelf.{Shelf}
use Rattle.server_core.specs.ServerState.{ServerState}
use Rattle.server_core.specs.Sound.{ClosedStay, is_request}
use Rattle.world_operations.specs.declared.message.Sent.{Sent}
use Rattle.world_operations.proofs.Positions.{get_push}
use Rattle.world.specs.History.{HasHistory, IsAnswerBy}

-- ---- a server goes on

pub history_on : (sent : List Sent) (node : ℕ) (old new : ServerState MemoryState) → ClosedStay old.store.shelf new.store.shelf → HasHistory sent node old → HasHistory sent node new
history_on sent node old new stays h = record {
  shelf_at = h.shelf_at;
  stays = h.stays;
  last = λ i id c e. stays id c (h.last i id c e);
  answers = h.answers;
}

-- ---- one message more is sent

answer_more : (sent more : List Sent) (x : Sent) (answer : Message) (s : Shelf) → IsAnswerBy sent x answer s → IsAnswerBy (sent ++ more) x answer s
answer_more sent more x answer s a = record {
  frame = a.frame;
  request = a.request;
  was_sent = Contains-append_left sent more a.frame a.was_sent;
  spelled = a.spelled;
  from = a.from;
  to = a.to;
  answers = a.answers;
  all = a.all;
}

module _ (sent : List Sent) (y : Sent) (node : ℕ) (m : ServerState MemoryState) (h : HasHistory sent node m)
    (told : (answer : Message) → y.from ≡ node → IsBodyOf answer y.body → is_request answer.body ≡ false → IsAnswerBy sent y answer m.store.shelf) where
  -- from now on it stands as it does now
  abbrev shelf_then : ℕ → Shelf
  shelf_then k = if nat_lt k (length sent) then h.shelf_at k else m.store.shelf

  then_old : (k : ℕ) → k < length sent → shelf_then k ≡ h.shelf_at k
  then_old k low = ap (λ (b : Bool). if b then h.shelf_at k else m.store.shelf) (lt-ltb k (length sent) low)

  then_new : (k : ℕ) → length sent ≤ k → shelf_then k ≡ m.store.shelf
  then_new k high = ap (λ (b : Bool). if b then h.shelf_at k else m.store.shelf) (le-ltb k (length sent) high)

  then_last : (k : ℕ) → ClosedStay (shelf_then k) m.store.shelf
  then_last k = elim (cases_lt k (length sent)) [
    | inl low ↦ subst (λ (s : Shelf). ClosedStay s m.store.shelf) (sym (then_old k low)) (h.last k)
    | inr high ↦ subst (λ (s : Shelf). ClosedStay s m.store.shelf) (sym (then_new k high)) (λ id c e. e)
  ]

  then_stays : (i j : ℕ) → i ≤ j → ClosedStay (shelf_then i) (shelf_then j)
  then_stays i j le = elim (cases_lt j (length sent)) [
    | inl low ↦
        subst (λ (s : Shelf). ClosedStay s (shelf_then j)) (sym (then_old i (omega (arith, le, low))))
        (subst (ClosedStay (h.shelf_at i)) (sym (then_old j low)) (h.stays i j le))
    | inr high ↦ subst (ClosedStay (shelf_then i)) (sym (then_new j high)) (then_last i)
  ]

  then_answers : (moment : ℕ) (x : Sent) (answer : Message) → slice_get (sent ++ y ∷ []) moment ≡ Some x → x.from ≡ node → IsBodyOf answer x.body → is_request answer.body ≡ false
      → IsAnswerBy (sent ++ y ∷ []) x answer (shelf_then moment)
  then_answers moment x answer there from spelled kind = elim (get_push sent moment x y there) [
    | inl before ↦
        subst (IsAnswerBy (sent ++ y ∷ []) x answer) (sym (then_old moment (slice_get_within sent moment x before)))
        (answer_more sent (y ∷ []) x answer (h.shelf_at moment) (h.answers moment x answer before from spelled kind))
    | inr last ↦
        let own : IsAnswerBy sent y answer m.store.shelf =
        told answer (ap (λ (z : Sent). z.from) (sym last.1) ∙ from) (subst (λ (z : Sent). IsBodyOf answer z.body) last.1 spelled) kind in
        let high : length sent ≤ moment = omega (arith, last.0) in
        subst (IsAnswerBy (sent ++ y ∷ []) x answer) (sym (then_new moment high))
        (answer_more sent (y ∷ []) x answer m.store.shelf (subst (λ (z : Sent). IsAnswerBy sent z answer m.store.shelf) (sym last.1) own))
  ]

  pub history_more : HasHistory (sent ++ y ∷ []) node m
  history_more = record { shelf_at = shelf_then; stays = then_stays; last = then_last; answers = then_answers }
