use Rattle.std.proofs.Common.{◌≡◌, ◌∙◌, OnErr, ap, subst, sym}
use Rattle.request_record.specs.Asking.{after_message}
use Rattle.request_record.specs.Follow.{Follows, IsSaid}
use Rattle.upload_core.specs.Moves.{Stops}
use Rattle.upload_core.specs.Sending.{Uploading}
use Rattle.upload_core.specs.State.{Goal}
use Rattle.upload_core.proofs.Following.{failed_continue, hears_continue}
use Rattle.upload_core.proofs.Right.{message_kept, step_goal, stops_failed}
use Rattle.upload_core.proofs.upload.UploadOperation.on_message.Goals as goal

pub hear-outcome-requires : goal.hear-outcome-requires
hear-outcome-requires g c = c.self.invariant.2.going

pub invariant_of-self : goal.invariant_of-self
invariant_of-self g c =
    let old = c.self.inside.course in
    let mid = c.hear-outcome.new.self in
    let new = c.fail_by.new.self in
    let e = c.fail_by.ensures in
    let kept = message_kept mid new e.right c.hear-outcome.result c.args.from c.args.message c.args.now old c.hear-outcome.ensures.ok e.ok e.err c.self.invariant.2 in
    let same : old.goal ≡ new.goal = sym c.hear-outcome.ensures.goal ∙ sym (step_goal mid new e.right c.hear-outcome.result e.ok e.err) in (
      c.self.invariant.0 ∙ ap (λ (a : Goal). a.digests) same,
      c.self.invariant.1 ∙ ap (λ (a : Goal). a.share_length) same,
      kept,
    )

pub returns-clause-stops : goal.returns-clause-stops
returns-clause-stops g c =
    let e = c.fail_by.ensures in
    subst (λ (u : Uploading g.row.P.Denot). OnErr c.hear-outcome.result (Stops (after_message c.args.from c.args.message c.args.now u.course.requests) u.course c.fail_by.new.self)) c.self.view_is
    (stops_failed c.hear-outcome.result (after_message c.args.from c.args.message c.args.now c.self.inside.course.requests) c.self.inside.course c.hear-outcome.new.self c.fail_by.new.self c.hear-outcome.ensures.err e.err)

pub returns-clause-follows : goal.returns-clause-follows
returns-clause-follows g c =
    let old = c.self.inside.course in
    let mid = c.hear-outcome.new.self in
    let o = c.hear-outcome.ensures in
    let e = c.fail_by.ensures in
    let continues = failed_continue (IsSaid c.args.from c.args.message old.requests.session) c.hear-outcome.result old mid c.fail_by.new.self (hears_continue c.args.from c.args.message c.args.now old mid c.hear-outcome.result o.ok o.err) e.ok e.err in
    subst (λ (u : Uploading g.row.P.Denot). Follows (IsSaid c.args.from c.args.message u.course.requests.session) u.course.requests c.fail_by.new.self.requests) c.self.view_is continues.follows
