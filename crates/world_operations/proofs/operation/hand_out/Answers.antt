use Rattle.std.proofs.Common.{Bool, subst}
use Rattle.request_record.specs.Follow.{Nothing}
use Rattle.world_operations.specs.Moves.{HandsOne}
use Rattle.world_operations.proofs.TaskMoves.{goes_on}
use Rattle.world_operations.proofs.Sending.{handing_begins, handing_ends, handing_less, handing_more, more_pieces}
use Rattle.world_operations.proofs.operation.hand_out.Goals as goal

pub loop-init : goal.loop-init
loop-init c = handing_begins c.args.task.now c.args.given.now

pub loop-smaller : goal.loop-smaller
loop-smaller c =
    handing_less c.loop.task c.hand_one.new.task c.loop.given c.hand_one.new.given
    (subst (λ (b : Bool). HandsOne c.loop.task c.loop.given b c.hand_one.new.task c.hand_one.new.given) c.if-branch.true c.in_ok-hand_one.ensures.one)

pub loop-preserved : goal.loop-preserved
loop-preserved c =
    handing_more c.args.task.now c.loop.task c.hand_one.new.task c.args.given.now c.loop.given c.hand_one.new.given c.loop.invariant
    (subst (λ (b : Bool). HandsOne c.loop.task c.loop.given b c.hand_one.new.task c.hand_one.new.given) c.if-branch.true c.in_ok-hand_one.ensures.one) c.in_ok-hand_one.ensures.given

pub returns-clause-all : goal.returns-clause-all
returns-clause-all c =
    handing_ends c.args.task.now c.loop.task c.hand_one.new.task c.args.given.now c.loop.given c.hand_one.new.given c.loop.invariant
    (subst (λ (b : Bool). HandsOne c.loop.task c.loop.given b c.hand_one.new.task c.hand_one.new.given) c.if-branch.false c.in_ok-hand_one.ensures.one)

pub returns-in_err-hand_one-clause-goes : goal.returns-in_err-hand_one-clause-goes
returns-in_err-hand_one-clause-goes c = goes_on Nothing c.args.task.now c.loop.task c.hand_one.new.task c.loop.invariant.goes c.in_err-hand_one.ensures.goes

pub returns-in_err-hand_one-clause-some : goal.returns-in_err-hand_one-clause-some
returns-in_err-hand_one-clause-some c =
    let last = c.in_err-hand_one.ensures.some in
    more_pieces c.args.given.now c.loop.given c.hand_one.new.given c.loop.invariant.pieces last.0 c.loop.invariant.appended last.1

pub returns-clause-goes : goal.returns-clause-goes
returns-clause-goes c = goes_on Nothing c.args.task.now c.loop.task c.hand_one.new.task c.loop.invariant.goes c.in_ok-hand_one.ensures.goes

pub returns-clause-some : goal.returns-clause-some
returns-clause-some c =
    let last = c.in_ok-hand_one.ensures.some in
    more_pieces c.args.given.now c.loop.given c.hand_one.new.given c.loop.invariant.pieces last.0 c.loop.invariant.appended last.1

pub returns-in_err-hand_one-clause-given : goal.returns-in_err-hand_one-clause-given
returns-in_err-hand_one-clause-given c = λ all. c.in_err-hand_one.ensures.given (c.loop.invariant.given all)

pub returns-clause-given : goal.returns-clause-given
returns-clause-given c = λ all. c.in_ok-hand_one.ensures.given (c.loop.invariant.given all)
