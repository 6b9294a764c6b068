-- A check asks its own servers alone which shares they hold.
use Rattle.std.proofs.Common.{◌≡◌, ℕ, List, [], ◌∷◌, ◌++◌, All, Option, Some, None, true, true≢false, ap, refl, sym, subst, ◌∙◌, inl, inr}
use Rattle.std.specs.Prelude.{Contains, slice_get}
use Rattle.std.proofs.lemmas.List.Elements.{All-head, All-tail}
use Rattle.lemmas.proofs.Members.{contains_at}
use Rattle.lemmas.proofs.Positions.{get_pushed}
use Rattle.wire.specs.declared.message.Message.{Message}
use Rattle.request_record.specs.declared.requests.Asked.{Asked}
use Rattle.request_record.specs.declared.requests.Request.{Request}
use Rattle.request_record.specs.Asking.{after_message, after_tick, begun, lost_by_tick}
use Rattle.request_record.specs.Record.{RequestsState, asked_all, asked_more, counts_at, first_request}
use Rattle.checker.specs.Book.{AsksItsOwn}
use Rattle.checker.specs.Moves.{Advances, FailsAt, Stops, TicksOn, at_once, is_read, later}
use Rattle.checker.specs.Sending.{Takes}
use Rattle.checker.specs.State.{CheckState}
use Rattle.checker.proofs.Entries.{GoesTo, was_at}
use Rattle.checker.proofs.Keeping.{begun_at, begun_entries}
use Rattle.checker.proofs.RecordMoves.{counted_at_position, ticked_by, uncounted}

own_goes : (servers : List ℕ) (es ns : List Request) (todo : List ℕ) → GoesTo es ns todo → AsksItsOwn servers es → AsksItsOwn servers ns
own_goes servers es ns todo to own i n e asks =
    let was = was_at es ns todo to i n e in
    subst (Contains servers) (sym was.server) (own i was.request was.there (sym was.asked ∙ asks))

-- one more request, which is a read
own_push : (servers : List ℕ) (es : List Request) (r : Request) → is_read r.asked ≡ true → AsksItsOwn servers es → AsksItsOwn servers (es ++ r ∷ [])
own_push servers es r reads own i n e asks = elim (get_pushed es r n i e) [
  | inl before ↦ own i n before asks
  | inr pushed ↦ absurd (true≢false (sym reads ∙ ap (λ (x : Request). is_read x.asked) pushed.1 ∙ ap is_read asks))
]

own_more : (servers : List ℕ) (asks : List (ℕ × Asked)) (r : RequestsState) → All (λ (ask : ℕ × Asked). is_read ask.1 ≡ true) asks → AsksItsOwn servers r.entries → AsksItsOwn servers (asked_all asks r).entries
own_more servers [] r reads own = own
own_more servers (ask ∷ asks) r reads own =
    own_more servers asks (asked_more ask.0 ask.1 r) (All-tail (λ (a : ℕ × Asked). is_read a.1 ≡ true) ask asks reads)
    (own_push servers r.entries (first_request ask.0 ask.1 r.clock) (All-head (λ (a : ℕ × Asked). is_read a.1 ≡ true) ask asks reads) own)

-- more reads were asked
own_asked : (servers : List ℕ) (r : RequestsState) (asks : List (ℕ × Asked)) (new : CheckState) → new.servers ≡ servers → All (λ (ask : ℕ × Asked). is_read ask.1 ≡ true) asks → new.requests ≡ asked_all asks r
    → AsksItsOwn servers r.entries → AsksItsOwn new.servers new.requests.entries
own_asked servers r asks new same reads is own =
    subst (λ (x : List ℕ). AsksItsOwn x new.requests.entries) (sym same)
    (subst (λ (x : RequestsState). AsksItsOwn servers x.entries) (sym is) (own_more servers asks r reads own))

own_counted : (servers : List ℕ) (from : ℕ) (m : Message) (now : ℕ) (r : RequestsState) → AsksItsOwn servers r.entries → AsksItsOwn servers (after_message from m now r).entries
own_counted servers from m now r own = by (counts_at from m r) refl
  where
    by : (o : Option ℕ) → o ≡ counts_at from m r → AsksItsOwn servers (after_message from m now r).entries
    by None e = subst (AsksItsOwn servers) (sym (uncounted from m now r e)) own
    by (Some position) e = own_goes servers r.entries (after_message from m now r).entries (position ∷ []) (counted_at_position from now m r position e).goes own

own_ticked : (servers : List ℕ) (now : ℕ) (r : RequestsState) → AsksItsOwn servers r.entries → AsksItsOwn servers (after_tick now r).entries
own_ticked servers now r own = own_goes servers r.entries (after_tick now r).entries (lost_by_tick now r) (ticked_by now r).goes own

-- ---- the calls

pub own_begun : (servers : List ℕ) (session now : ℕ) → AsksItsOwn servers (begun servers session now).entries
own_begun servers session now i r e asks =
    let found = begun_at servers now i r (ap (λ (l : List Request). slice_get l i) (sym (begun_entries servers session now)) ∙ e) in
    subst (Contains servers) (ap (λ (x : Request). x.server) (sym found.is)) (contains_at servers i found.server found.there)

pub own_message : (from : ℕ) (m : Message) (now : ℕ) (old new : CheckState) → Advances from m now old new → AsksItsOwn old.servers old.requests.entries → AsksItsOwn new.servers new.requests.entries
own_message from m now old new on own =
    own_asked old.servers (after_message from m now old.requests) on.asks new on.servers on.reads on.requests (own_counted old.servers from m now old.requests own)

pub own_stopped : (from : ℕ) (m : Message) (now : ℕ) (old new : CheckState) → Stops (after_message from m now old.requests) old new → AsksItsOwn old.servers old.requests.entries → AsksItsOwn new.servers new.requests.entries
own_stopped from m now old new on own =
    own_asked old.servers (after_message from m now old.requests) on.asks new on.servers on.reads on.requests (own_counted old.servers from m now old.requests own)

pub own_tick : (now : ℕ) (old new : CheckState) → TicksOn now old new → AsksItsOwn old.servers old.requests.entries → AsksItsOwn new.servers new.requests.entries
own_tick now old new on own =
    own_asked old.servers (after_tick now old.requests) on.asks new on.servers on.reads on.requests (own_ticked old.servers now old.requests own)

pub own_fail : (now : ℕ) (old new : CheckState) → FailsAt now old new → AsksItsOwn old.servers old.requests.entries → AsksItsOwn new.servers new.requests.entries
own_fail now old new fails own = elim fails [
  | at_once same ↦ subst (λ (c : CheckState). AsksItsOwn c.servers c.requests.entries) (sym same) own
  | later failed on ↦ own_asked old.servers (after_tick now old.requests) on.asks new on.servers on.reads on.requests (own_ticked old.servers now old.requests own)
]

pub own_sent : (old new : CheckState) (o : Option (ℕ × Message)) → Takes old o new → AsksItsOwn old.servers old.requests.entries → AsksItsOwn new.servers new.requests.entries
own_sent old new None takes own = subst (λ (c : CheckState). AsksItsOwn c.servers c.requests.entries) (sym takes.1) own
own_sent old new (Some f) takes own = subst (λ (c : CheckState). AsksItsOwn c.servers c.requests.entries) (sym takes.3) own
