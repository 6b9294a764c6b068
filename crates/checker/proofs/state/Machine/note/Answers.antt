use Rattle.std.proofs.Common.{ap, refl, subst}
use Rattle.request_record.specs.Record.{RequestsState}
use Rattle.request_record.specs.Asking.{lost_by_tick}
use Rattle.checker.specs.Book.{state_of}
use Rattle.checker.specs.Moves.{GoesOn}
use Rattle.checker.proofs.Keeping.{goes_on_ended, kept_same, kept_ticked}
use Rattle.checker.proofs.RecordMoves.{once_as, ticked_as}
use Rattle.checker.proofs.state.Machine.note.Goals as goal

pub returns-clause-ok : goal.returns-clause-ok
returns-clause-ok c status servers =
    let m = c.args.self.now in
    let r = c.tick.new.self in
    subst (λ (x : RequestsState). GoesOn x (state_of m servers status) (state_of (record m { requests = r }) servers status)) c.in_ok-tick.ensures.ok (goes_on_ended m r servers status)

pub returns-clause-kept : goal.returns-clause-kept
returns-clause-kept c status ended k =
    let m = c.args.self.now in
    let r = c.tick.new.self in
    let is = c.in_ok-tick.ensures.ok in
    kept_ticked m r (lost_by_tick c.args.now m.requests) status ended (ticked_as c.args.now m.requests r (lost_by_tick c.args.now m.requests) refl is) (once_as c.args.now m.requests r is k.safe.once) k

pub returns-in_err-tick-clause-kept : goal.returns-in_err-tick-clause-kept
returns-in_err-tick-clause-kept c status ended k =
    kept_same c.args.self.now c.tick.new.self status (ap (λ (x : RequestsState). x.entries) c.in_err-tick.ensures.err) k
