use Rattle.std.proofs.Common.{◌≡◌, ◌+◌, ◌-◌, ◌<◌, List, Some, length, sym, ap, subst, ◌∙◌, arith}
use Rattle.request_record.specs.declared.requests.Outcome.TheVariants.{Answered}
use Rattle.request_record.specs.declared.requests.Request.{Request}
use Rattle.request_record.specs.Record.{RequestsState, IsIndexed, counts_at, without, requests_state}
use Rattle.request_record.proofs.RecordLaws.{Awaits, settled, counts_is, count_settled, answered_right, answered_indexed}
use Rattle.request_record.proofs.QueueLaws.{answered_order}
use Rattle.request_record.proofs.EntrySteps.{waits_unwritten}
use Rattle.request_record.proofs.ledger.Ledger.take_answer.Goals as goal

pub overflow_sub-self : goal.overflow_sub-self
overflow_sub-self c =
    let state : RequestsState = requests_state c.self.inside.session c.self.inside.entries c.self.inside.outgoing.items c.self.inside.clock in
    let found : counts_at c.args.from c.args.message state ≡ Some c.in-Some.position = ap (counts_at c.args.from c.args.message) c.self.view_is ∙ sym c.in-Some.ensures.value in
    let a : Awaits c.self.inside.entries c.in-Some.position = counts_is c.args.from c.args.message state c.in-Some.position found in
    let there : c.in-Some.position < length c.self.inside.entries = subst (λ (s : RequestsState). c.in-Some.position < length s.entries) (sym c.self.view_is) c.in-Some.ensures.there in
    omega (arith, count_settled c.self.inside.entries c.in-Some.position a c.args.message.body there, c.self.invariant.1.counts)

pub invariant_of-self : goal.invariant_of-self
invariant_of-self c =
    let entries : List Request = c.self.inside.entries in
    let state : RequestsState = requests_state c.self.inside.session entries c.self.inside.outgoing.items c.self.inside.clock in
    let found : counts_at c.args.from c.args.message state ≡ Some c.in-Some.position = ap (counts_at c.args.from c.args.message) c.self.view_is ∙ sym c.in-Some.ensures.value in
    let a : Awaits entries c.in-Some.position = counts_is c.args.from c.args.message state c.in-Some.position found in
    let there : c.in-Some.position < length entries = subst (λ (s : RequestsState). c.in-Some.position < length s.entries) (sym c.self.view_is) c.in-Some.ensures.there in
    let new : c.settle.new.self ≡ settled entries c.in-Some.position a c.args.message.body = c.settle.ensures a.request a.there (waits_unwritten a.request a.waits) ∙ ap (settled entries c.in-Some.position a) c.of-kept.ensures.kept in
    let fewer : c.self.inside.outstanding ≡ c.self.inside.outstanding - 1 + 1 = omega (arith, count_settled entries c.in-Some.position a c.args.message.body there, c.self.invariant.1.counts) in
    let order = answered_order c.self.inside.sent c.in-Some.position entries a.request (Answered c.args.message.body) state.outgoing a.there c.self.invariant.1.order in (
      answered_right state c.in-Some.position a c.args.message.body there c.self.invariant.0 _ new c.unqueue.ensures,
      rw (new, c.unqueue.ensures) (answered_indexed (c.self.inside.outstanding - 1) c.self.inside.settled c.in-Some.position c.self.inside.sent entries a c.args.message.body state.outgoing (without c.in-Some.position state.outgoing) there (subst (λ k. IsIndexed k c.self.inside.settled c.self.inside.sent entries state.outgoing) fewer c.self.invariant.1) order),
    )
