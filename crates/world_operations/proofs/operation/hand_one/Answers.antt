use Rattle.std.proofs.Common.{List, Contains, sym, subst}
use Rattle.download_segments.specs.declared.piece.Piece.{Piece}
use Rattle.request_record.specs.Follow.{Nothing}
use Rattle.world_operations.specs.Follow.{GoesOn}
use Rattle.world_operations.specs.Given.{AreGivenBy}
use Rattle.world_operations.proofs.Sending.{given_more}
use Rattle.world_operations.proofs.TaskMoves.{handed}
use Rattle.world_operations.proofs.operation.hand_one.Goals as goal

pub returns-in_err-push-clause-goes : goal.returns-in_err-push-clause-goes
returns-in_err-push-clause-goes c = handed c.args.task.now c.take_piece.new.self c.take_piece.result c.take_piece.ensures.takes

pub returns-clause-goes : goal.returns-clause-goes
returns-clause-goes c = handed c.args.task.now c.take_piece.new.self c.take_piece.result c.take_piece.ensures.takes

pub returns-in_err-push-clause-given : goal.returns-in_err-push-clause-given
returns-in_err-push-clause-given c = λ all p among.
    let goes : GoesOn Nothing c.args.task.now c.take_piece.new.self = handed c.args.task.now c.take_piece.new.self c.take_piece.result c.take_piece.ensures.takes in
    goes.given p (all p (subst (λ (l : List Piece). Contains l p) c.in_err-push.ensures.err among))

pub returns-clause-given : goal.returns-clause-given
returns-clause-given c = λ all.
    let goes : GoesOn Nothing c.args.task.now c.take_piece.new.self = handed c.args.task.now c.take_piece.new.self c.take_piece.result c.take_piece.ensures.takes in
    subst (AreGivenBy c.take_piece.new.self) (sym c.in_ok-push.ensures.ok)
    (given_more c.take_piece.new.self c.args.given.now c.in-Some.piece (λ p among. goes.given p (all p among)) c.in-Some.ensures.given)

pub returns-in_default-clause-goes : goal.returns-in_default-clause-goes
returns-in_default-clause-goes c = handed c.args.task.now c.take_piece.new.self c.take_piece.result c.take_piece.ensures.takes
