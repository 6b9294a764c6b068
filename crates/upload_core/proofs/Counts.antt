-- How many requests wait, as the record goes on.
use Rattle.std.proofs.Common.{◌≡◌, ℕ, zero, suc, ◌+◌, Bool, true, false, cond, List, [], ◌∷◌, Option, Some, None, length, map, refl, sym, ap, ◌∙◌, arith, true≢false}
use Rattle.std.specs.Prelude.{max, slice_get}
use Rattle.request_record.proofs.StepLaws.{count_cons, waiting_one, all_quiet_ticked}
use Rattle.wire.specs.declared.message.Message.{Message}
use Rattle.request_record.specs.declared.requests.Asked.TheVariants.{Allocation}
use Rattle.request_record.specs.declared.requests.Request.{Request}
use Rattle.request_record.specs.Record.{RequestsState, asked_all, asked_more, counts_at, first_request, is_outstanding, outstanding_count}
use Rattle.request_record.specs.Asking.{after_tick}
use Rattle.request_record.proofs.RecordLaws.{count_push, counts_is}
use Rattle.placement.specs.Matching.{Pair}
use Rattle.upload_core.specs.Rounds.{IsSettled}
use Rattle.upload_core.specs.Moves.{after_heard, heard, in_turn}

-- room for each pair is waited for
pub count_allocations : (len : ℕ) (pairs : List Pair) (r : RequestsState) → outstanding_count (asked_all (map (λ (pair : Pair). (pair.0, Allocation pair.1 len)) pairs) r).entries ≡ outstanding_count r.entries + length pairs
count_allocations len [] r = omega arith
count_allocations len (p ∷ ps) r =
    let new : RequestsState = asked_more p.0 (Allocation p.1 len) r in
    omega (arith, count_allocations len ps new, count_push r.entries (first_request p.0 (Allocation p.1 len) r.clock))

-- in a settled record none waits
pub quiet_of : (rs : List Request) → outstanding_count rs ≡ 0 → (i : ℕ) (r : Request) → slice_get rs i ≡ Some r → is_outstanding r.outcome ≡ false
quiet_of [] settled i r e = absurd cc
quiet_of (q ∷ qs) settled zero r e =
    let same : q ≡ r = cc in
    ap (λ (x : Request). is_outstanding x.outcome) (sym same) ∙ by (is_outstanding q.outcome) refl
  where
    by : (b : Bool) → is_outstanding q.outcome ≡ b → b ≡ false
    by true k = absurd (let one : waiting_one q ≡ 1 = ap (λ (c : Bool). cond c 1 0) k in omega (arith, settled, one, count_cons q qs))
    by false k = refl
quiet_of (q ∷ qs) settled (suc i) r e = quiet_of qs (omega (arith, settled, count_cons q qs)) i r e

-- no message counts for a settled record
settled_none : (from : ℕ) (m : Message) (r : RequestsState) → IsSettled r.entries → (o : Option ℕ) → counts_at from m r ≡ o → o ≡ None
settled_none from m r settled None e = refl
settled_none from m r settled (Some position) e =
    let a = counts_is from m r position e in
    absurd (true≢false (sym a.waits ∙ quiet_of r.entries settled position a.request a.there))

-- a message that a settled record hears moves the time alone
pub message_settled : (from : ℕ) (m : Message) (now : ℕ) (r : RequestsState) → IsSettled r.entries → (after_heard from m now r).entries ≡ r.entries
message_settled from m now r settled =
    let none : counts_at from m r ≡ None = settled_none from m r settled (counts_at from m r) refl in
    ap (λ (o : Option ℕ). (heard (in_turn r.entries o) from m now r).entries) none

pub tick_settled : (now : ℕ) (r : RequestsState) → IsSettled r.entries → (after_tick now r).entries ≡ r.entries
tick_settled now r settled = all_quiet_ticked (max r.clock now) r.entries settled
