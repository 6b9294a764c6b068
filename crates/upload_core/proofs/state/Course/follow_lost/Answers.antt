use Rattle.std.proofs.Common.{take, ◌∙◌, ap, get_or, subst, sym}
use Rattle.std.proofs.lemmas.List.Elements.{All-take}
use Rattle.upload_core.specs.State.{UploadState, with_record}
use Rattle.upload_core.specs.Moves.{followed_at}
use Rattle.upload_core.specs.Trails.{IsLostAt, IsPassed}
use Rattle.upload_core.proofs.Ends.{losses_stop, lost_after, passed_after}
use Rattle.upload_core.proofs.Records.{on_err_all}
use Rattle.upload_core.proofs.Goes.{follow_more}
use Rattle.upload_core.proofs.state.Course.follow_lost.Goals as goal

pub follow_loss-requires-clause-lost : goal.follow_loss-requires-clause-lost
follow_loss-requires-clause-lost c =
    let v : UploadState = c.args.self.now in
    let k = c.loop-position.position-index in
    subst (λ (s : UploadState). IsLostAt s.requests.entries (get_or c.args.positions.now k 0)) (sym c.loop-position.invariant)
    (lost_after v.goal (take k c.args.positions.now) v.requests (All-take (IsLostAt v.requests.entries) k c.args.positions.now c.requires.lost) (get_or c.args.positions.now k 0) (c.requires.lost k 0 c.loop-position-test.true))

pub follow_loss-requires-clause-passed : goal.follow_loss-requires-clause-passed
follow_loss-requires-clause-passed c =
    let v : UploadState = c.args.self.now in
    let k = c.loop-position.position-index in
    subst (λ (s : UploadState). IsPassed s.goal s.requests.entries (get_or c.args.positions.now k 0)) (sym c.loop-position.invariant)
    (passed_after v.goal (take k c.args.positions.now) v.requests (All-take (IsLostAt v.requests.entries) k c.args.positions.now c.requires.lost) (get_or c.args.positions.now k 0) (c.requires.passed k 0 c.loop-position-test.true))

pub loop-position-preserved : goal.loop-position-preserved
loop-position-preserved c =
    let v : UploadState = c.args.self.now in
    let k = c.loop-position.position-index in
    c.in_ok-follow_loss.ensures.ok
    ∙ ap (λ (s : UploadState). with_record s (followed_at s.goal (get_or c.args.positions.now k 0) s.requests)) c.loop-position.invariant
    ∙ ap (with_record v) (follow_more v.goal v.requests c.args.positions.now k c.loop-position-test.true)

pub returns-in_err-follow_loss-clause-err : goal.returns-in_err-follow_loss-clause-err
returns-in_err-follow_loss-clause-err c =
    let v : UploadState = c.args.self.now in
    let k = c.loop-position.position-index in
    on_err_all c.from_residual.result _ (losses_stop v v.requests (take k c.args.positions.now) c.loop-position.self c.follow_loss.new.self (All-take (IsLostAt v.requests.entries) k c.args.positions.now c.requires.lost) c.loop-position.invariant c.in_err-follow_loss.ensures.err)
