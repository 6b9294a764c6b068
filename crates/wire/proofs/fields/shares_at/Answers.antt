use Rattle.std.proofs.lemmas.Result.{err_from_is_err_and}
use Rattle.wire.specs.Reading.{shares_at}
use Rattle.wire.proofs.SharesLoop.{goes_on, ends, is_done}
use Rattle.wire.proofs.fields.shares_at.Goals as goal

pub returns-in_err-held : goal.returns-in_err-held
returns-in_err-held c =
    let p = err_from_is_err_and c.from_residual.result c.from_residual.ensures.1 in
    rw (p.1, p.2) (ends c.in_err-held.field-0.0 c.loop.shares.items c.args.count c.loop.counter c.loop.rest.now (shares_at c.args.count c.args.bytes.now) c.loop-test.true c.in_err-held.ensures c.loop.invariant)

pub loop-preserved : goal.loop-preserved
loop-preserved c =
    rw c.in_ok-push.ensures.items (goes_on c.loop.shares.items c.args.count c.loop.counter c.loop.rest.now c.in_ok-held.held c.in_ok-held.after.now (shares_at c.args.count c.args.bytes.now) c.loop-test.true c.in_ok-held.ensures c.loop.invariant)

pub returns : goal.returns
returns c = is_done c.loop.shares.items c.args.count c.loop.counter c.loop.rest.now (shares_at c.args.count c.args.bytes.now) c.loop-test.false c.loop.invariant
