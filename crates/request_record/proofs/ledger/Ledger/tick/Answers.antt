use Rattle.std.specs.List.{All}
use Rattle.std.proofs.Common.{◌≡◌, ◌-◌, ◌≤◌, ◌++◌, List, ℕ, length, map, sym, ap, subst, ◌∙◌, arith}
use Rattle.std.proofs.lemmas.List.{length-map}
use Rattle.std.proofs.lemmas.List.Elements.{All-same}
use Rattle.request_record.specs.declared.requests.Request.{Request}
use Rattle.request_record.specs.Record.{RequestsState, AreSettled, lost_positions, resent_positions, ticked_one, without_lost, outstanding_count, ticked, requests_state}
use Rattle.request_record.specs.Written.{IsKeptAt}
use Rattle.request_record.specs.Asking.{after_tick, lost_by_tick}
use Rattle.request_record.proofs.RecordLaws.{count_ticked, settled_ticked, ticked_right}
use Rattle.request_record.proofs.QueueLaws.{ticked_order}
use Rattle.request_record.proofs.EntrySteps.{lost_kept}
use Rattle.request_record.proofs.ledger.Ledger.tick.Goals as goal

pub first_waiting-self-inside-requires : goal.first_waiting-self-inside-requires
first_waiting-self-inside-requires c =
    subst (AreSettled c.self.inside.settled) (sym c.tick.ensures) (settled_ticked c.max-now.result c.self.inside.settled c.self.inside.entries c.self.invariant.1.before)

pub overflow_sub-self : goal.overflow_sub-self
overflow_sub-self c =
    let entries : List Request = c.self.inside.entries in
    let now = c.max-now.result in
    let lost : c.in_ok-lost.lost.items ≡ lost_positions now entries = c.in_ok-lost.ensures in
    omega (arith, c.len.ensures, ap length lost, c.in_ok-lost.lost.ok.0, count_ticked now 0 entries, c.self.invariant.1.counts)

pub invariant_of-self-2 : goal.invariant_of-self-2
invariant_of-self-2 c =
    let entries : List Request = c.self.inside.entries in
    let from : ℕ = c.self.inside.settled in
    let now = c.max-now.result in
    let state : RequestsState = requests_state c.self.inside.session entries c.self.inside.outgoing.items c.self.inside.clock in
    let new : c.tick.new.self ≡ map (ticked_one now) entries = c.tick.ensures in
    let resent : c.in_ok-resent.resent.items ≡ resent_positions now entries = c.in_ok-resent.ensures in
    let lost : c.in_ok-lost.lost.items ≡ lost_positions now entries = c.in_ok-lost.ensures in
    let all : c.append.new.self.items ≡ c.self.inside.outgoing.items ++ resent_positions now entries = c.in_ok-append.ensures.items ∙ ap (λ (xs : List ℕ). c.self.inside.outgoing.items ++ xs) resent in
    let positions : c.drop_lost.new.outgoing.items ≡ without_lost now entries (c.self.inside.outgoing.items ++ resent_positions now entries) = c.drop_lost.ensures ∙ ap (without_lost now entries) all in
    let fewer : outstanding_count (map (ticked_one now) entries) ≡ c.self.inside.outstanding - c.len.result = omega (arith, c.len.ensures, ap length lost, c.in_ok-lost.lost.ok.0, count_ticked now 0 entries, c.self.invariant.1.counts) in
    let before : AreSettled c.first_waiting-self-inside.result (map (ticked_one now) entries) = subst (AreSettled c.first_waiting-self-inside.result) new c.first_waiting-self-inside.ensures in
    let within : c.self.inside.sent ≤ length (map (ticked_one now) entries) = omega (arith, c.self.invariant.1.within, length-map entries (ticked_one now)) in (
      ticked_right now state c.self.invariant.0 _ new positions,
      rw (new, positions) (record { counts = sym fewer; before = before; within = within; order = ticked_order now c.self.inside.sent entries c.self.inside.outgoing.items c.self.invariant.1.order }),
    )

pub returns-clause-lost : goal.returns-clause-lost
returns-clause-lost c =
    let entries : List Request = c.self.inside.entries in
    let from : ℕ = c.self.inside.settled in
    let now = c.max-now.result in
    let lost : c.in_ok-lost.lost.items ≡ lost_positions now entries = c.in_ok-lost.ensures in
    let time : lost_positions now entries ≡ lost_by_tick c.args.now (requests_state c.self.inside.session entries c.self.inside.outgoing.items c.self.inside.clock) = ap (λ (t : ℕ). lost_positions t entries) c.max-now.ensures in
    lost ∙ time ∙ ap (lost_by_tick c.args.now) c.self.view_is

pub returns-clause-ok : goal.returns-clause-ok
returns-clause-ok c =
    let entries : List Request = c.self.inside.entries in
    let from : ℕ = c.self.inside.settled in
    let now = c.max-now.result in
    let state : RequestsState = requests_state c.self.inside.session entries c.self.inside.outgoing.items c.self.inside.clock in
    let new : c.tick.new.self ≡ map (ticked_one now) entries = c.tick.ensures in
    let resent : c.in_ok-resent.resent.items ≡ resent_positions now entries = c.in_ok-resent.ensures in
    let all : c.append.new.self.items ≡ c.self.inside.outgoing.items ++ resent_positions now entries = c.in_ok-append.ensures.items ∙ ap (λ (xs : List ℕ). c.self.inside.outgoing.items ++ xs) resent in
    let positions : c.drop_lost.new.outgoing.items ≡ without_lost now entries (c.self.inside.outgoing.items ++ resent_positions now entries) = c.drop_lost.ensures ∙ ap (without_lost now entries) all in
    rw (new, positions) (ap (λ (t : ℕ). ticked t state) c.max-now.ensures ∙ ap (after_tick c.args.now) c.self.view_is)

pub returns-clause-kept : goal.returns-clause-kept
returns-clause-kept c =
    let entries : List Request = c.self.inside.entries in
    let now = c.max-now.result in
    subst (λ (es : List Request). All (IsKeptAt es) c.in_ok-lost.lost.items) (sym c.tick.ensures) (All-same (IsKeptAt (map (ticked_one now) entries)) c.in_ok-lost.lost.items (lost_positions now entries) c.in_ok-lost.ensures (lost_kept now entries))
