use Rattle.std.proofs.Common.{refl}
use Rattle.request_record.specs.Follow.{IsSaid}
use Rattle.world_operations.specs.Tasks.{requests_of}
use Rattle.world_operations.proofs.Sending.{moves_by, moves_on}
use Rattle.world_operations.proofs.operation.Operation.on_message.Goals as goal

pub returns-clause-some : goal.returns-clause-some
returns-clause-some c =
    let old = c.args.self.now in
    let mid = c.on_message.new.self in
    moves_by (IsSaid c.args.from c.args.message (requests_of old.task).session) old c.flush.new.self mid c.args.sent.now.items c.flush.new.sent.items
    c.in_ok-on_message.ensures.goes c.flush.ensures.same c.flush.ensures.given c.flush.ensures.some

pub returns-in_err-on_message-clause-some : goal.returns-in_err-on_message-clause-some
returns-in_err-on_message-clause-some c =
    let old = c.args.self.now in
    moves_on (IsSaid c.args.from c.args.message (requests_of old.task).session) old (record old { task = c.on_message.new.self }) c.args.sent.now.items refl c.in_err-on_message.ensures.goes
