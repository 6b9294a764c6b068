use Rattle.std.proofs.Common.{◌∙◌, ap, sym}
use Rattle.upload_core.specs.State.{Goal}
use Rattle.upload_core.proofs.Right.{begins_kept}
use Rattle.upload_core.proofs.upload.Upload.start.Goals as goal

pub invariant_of-result : goal.invariant_of-result
invariant_of-result g c =
    let b = c.in_ok-course.ensures.ok in
    let kept = begins_kept c.args.goal c.args.happy c.args.servers.now c.args.session c.args.now c.in_ok-course.course b c.in_ok-course.ensures.right in (
      c.requires.own ∙ ap (λ (a : Goal). a.digests) (sym b.goal_is),
      c.requires.long ∙ ap (λ (a : Goal). a.share_length) (sym b.goal_is),
      kept,
    )
