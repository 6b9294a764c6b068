use Rattle.std.proofs.Common.{◌≡◌, ◌∷◌, ◌<◌, List, ℕ, length, slice_get, true, sym, subst}
use Rattle.std.proofs.lemmas.List.Elements.{All-head, All-same}
use Rattle.request_record.specs.declared.requests.Request.{Request}
use Rattle.request_record.specs.Record.{is_current_in, IsRecord, IsIndexed, sent_to, requests_state}
use Rattle.request_record.proofs.QueueLaws.{taken_indexed, taken_right}
use Rattle.request_record.proofs.EntrySteps.{current_kept}
use Rattle.request_record.proofs.ledger.Ledger.take_next.Goals as goal

pub sent_to-self-inside-requires-clause-kept : goal.sent_to-self-inside-requires-clause-kept
sent_to-self-inside-requires-clause-kept c =
    let entries : List Request = c.self.inside.entries in
    let position : ℕ = c.in_ok-position.position in
    let current = All-same (λ p. is_current_in (slice_get entries p) ≡ true) (position ∷ c.pop_front.new.self.items) c.self.inside.outgoing.items (sym c.in_ok-position.ensures.items) c.self.invariant.0.current in
    current_kept entries position (All-head (λ p. is_current_in (slice_get entries p) ≡ true) position c.pop_front.new.self.items current)

pub invariant_of-self-2 : goal.invariant_of-self-2
invariant_of-self-2 c =
    let entries : List Request = c.self.inside.entries in
    let position : ℕ = c.in_ok-position.position in
    let rest : List ℕ = c.pop_front.new.self.items in
    let all : c.self.inside.outgoing.items ≡ position ∷ rest = c.in_ok-position.ensures.items in
    let right : IsRecord (requests_state c.self.inside.session entries (position ∷ rest) c.self.inside.clock) = subst (λ (positions : List ℕ). IsRecord (requests_state c.self.inside.session entries positions c.self.inside.clock)) all c.self.invariant.0 in
    let indexed : IsIndexed c.self.inside.outstanding c.self.inside.settled c.self.inside.sent entries (position ∷ rest) = subst (IsIndexed c.self.inside.outstanding c.self.inside.settled c.self.inside.sent entries) all c.self.invariant.1 in
    let there : position < length entries = All-head (λ p. p < length entries) position rest right.there in
    let sent : c.sent_to-self-inside.result ≡ sent_to (slice_get entries position) position c.self.inside.sent = c.sent_to-self-inside.ensures in (
      taken_right c.self.inside.session c.self.inside.clock position entries rest right,
      rw sent (taken_indexed c.self.inside.outstanding c.self.inside.settled c.self.inside.sent position entries rest there indexed),
    )
