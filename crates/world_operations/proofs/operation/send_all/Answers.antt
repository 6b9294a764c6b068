use Rattle.std.proofs.Common.{Bool, subst}
use Rattle.request_record.specs.Follow.{Nothing}
use Rattle.world_operations.specs.Moves.{SendsOne}
use Rattle.world_operations.proofs.Frames.{sends_on}
use Rattle.world_operations.proofs.Sending.{sending_begins, sending_ends, sending_less, sending_more}
use Rattle.world_operations.proofs.operation.send_all.Goals as goal

pub loop-init : goal.loop-init
loop-init c = sending_begins c.args.node c.args.task.now c.args.sent.now.items

pub returns-in_err-send_one-clause-some : goal.returns-in_err-send_one-clause-some
returns-in_err-send_one-clause-some c =
    sends_on Nothing c.args.node c.args.task.now c.loop.task c.send_one.new.task c.args.sent.now.items c.loop.sent.items c.send_one.new.sent.items c.loop.invariant.some c.in_err-send_one.ensures.some

pub loop-smaller : goal.loop-smaller
loop-smaller c =
    sending_less c.args.node c.loop.task c.send_one.new.task c.loop.sent.items c.send_one.new.sent.items
    (subst (λ (b : Bool). SendsOne c.args.node c.loop.task c.loop.sent.items b c.send_one.new.task c.send_one.new.sent.items) c.if-branch.true c.in_ok-send_one.ensures.one)

pub loop-preserved : goal.loop-preserved
loop-preserved c =
    sending_more c.args.node c.args.task.now c.loop.task c.send_one.new.task c.args.sent.now.items c.loop.sent.items c.send_one.new.sent.items c.loop.invariant c.in_ok-send_one.ensures.some
    (subst (λ (b : Bool). SendsOne c.args.node c.loop.task c.loop.sent.items b c.send_one.new.task c.send_one.new.sent.items) c.if-branch.true c.in_ok-send_one.ensures.one)

pub returns-clause-all : goal.returns-clause-all
returns-clause-all c =
    sending_ends c.args.node c.args.task.now c.loop.task c.send_one.new.task c.args.sent.now.items c.loop.sent.items c.send_one.new.sent.items c.loop.invariant
    (subst (λ (b : Bool). SendsOne c.args.node c.loop.task c.loop.sent.items b c.send_one.new.task c.send_one.new.sent.items) c.if-branch.false c.in_ok-send_one.ensures.one)

pub returns-clause-some : goal.returns-clause-some
returns-clause-some c =
    sends_on Nothing c.args.node c.args.task.now c.loop.task c.send_one.new.task c.args.sent.now.items c.loop.sent.items c.send_one.new.sent.items c.loop.invariant.some c.in_ok-send_one.ensures.some
