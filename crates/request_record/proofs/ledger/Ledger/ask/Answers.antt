use Rattle.std.proofs.Common.{◌≡◌, ◌+◌, ◌++◌, ◌∷◌, ◌≤◌, [], List, Bool, true, false, cond, length, refl, ap, ◌∙◌, arith}
use mir.Val.{bool_byte}
use Rattle.std.proofs.lemmas.List.{length-append}
use Rattle.request_record.specs.declared.requests.Request.{Request}
use Rattle.request_record.specs.Record.{RequestsState, first_request, is_outstanding, requests_state}
use Rattle.request_record.specs.Written.{is_written}
use Rattle.request_record.proofs.RecordLaws.{asked_right, asked_indexed, count_le}
use Rattle.request_record.proofs.QueueLaws.{asked_order}
use Rattle.request_record.proofs.EntrySteps.{first_unwritten}
use Rattle.request_record.proofs.ledger.Ledger.ask.Goals as goal

-- a `bool` as a number
byte_of : (b : Bool) → bool_byte b ≡ cond b 1 0
byte_of true = refl
byte_of false = refl

pub push-requires : goal.push-requires
push-requires c = ap is_written c.new-request.ensures ∙ first_unwritten c.args.server c.args.asked c.self.inside.clock

byte_most : (b : Bool) → cond b 1 0 ≤ 1
byte_most true = omega arith
byte_most false = omega arith

pub overflow_add-self : goal.overflow_add-self
overflow_add-self c =
    let entries : List Request = c.self.inside.entries in
    let byte : c.from-waiting.result ≡ cond (is_outstanding c.new-request.result.outcome) 1 0 = rw (c.from-waiting.ensures, c.is_outstanding.ensures) (byte_of (is_outstanding c.new-request.result.outcome)) in
    let more : length c.push.new.self ≡ length entries + 1 = ap length c.in_ok-push.ensures.ok ∙ length-append entries (c.new-request.result ∷ []) in
    omega (arith, c.self.invariant.1.counts, count_le entries, byte, byte_most (is_outstanding c.new-request.result.outcome), more, c.in_ok-push.ensures.fits)

pub invariant_of-self-2 : goal.invariant_of-self-2
invariant_of-self-2 c =
    let entries : List Request = c.self.inside.entries in
    let state : RequestsState = requests_state c.self.inside.session entries c.self.inside.outgoing.items c.self.inside.clock in
    let request : Request = first_request c.args.server c.args.asked c.self.inside.clock in
    let all : c.push.new.self ≡ entries ++ request ∷ [] = c.in_ok-push.ensures.ok ∙ ap (λ (r : Request). entries ++ r ∷ []) c.new-request.ensures in
    let positions : c.push_back_reserved.new.self.items ≡ c.self.inside.outgoing.items ++ length entries ∷ [] = rw (c.push_back_reserved.ensures.items, c.in_ok-reserve.ensures.items, c.len-position.ensures) refl in
    let byte : c.from-waiting.result ≡ cond (is_outstanding request.outcome) 1 0 = rw (c.from-waiting.ensures, c.is_outstanding.ensures, c.new-request.ensures) (byte_of (is_outstanding request.outcome)) in
    rw (all, positions) (
      asked_right c.args.server c.args.asked state c.self.invariant.0,
      asked_indexed c.self.inside.outstanding c.from-waiting.result c.self.inside.settled c.self.inside.sent entries request state.outgoing (state.outgoing ++ length entries ∷ []) c.self.invariant.1 byte (asked_order c.self.inside.sent entries request state.outgoing c.self.invariant.1.within c.self.invariant.0.there c.self.invariant.1.order),
    )
