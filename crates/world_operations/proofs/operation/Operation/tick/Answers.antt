use Rattle.std.proofs.Common.{refl}
use Rattle.request_record.specs.Follow.{Nothing}
use Rattle.world_operations.proofs.Sending.{moves_by, moves_on}
use Rattle.world_operations.proofs.operation.Operation.tick.Goals as goal

pub returns-clause-some : goal.returns-clause-some
returns-clause-some c =
    let old = c.args.self.now in
    let mid = c.tick.new.self in
    moves_by Nothing old c.flush.new.self mid c.args.sent.now.items c.flush.new.sent.items c.in_ok-tick.ensures.goes c.flush.ensures.same c.flush.ensures.given c.flush.ensures.some

pub returns-in_err-tick-clause-some : goal.returns-in_err-tick-clause-some
returns-in_err-tick-clause-some c =
    let old = c.args.self.now in
    moves_on Nothing old (record old { task = c.tick.new.self }) c.args.sent.now.items refl c.in_err-tick.ensures.goes
