use Rattle.std.proofs.Common.{◌≡◌, Some, sym, ap, subst, ◌∙◌}
use Rattle.request_record.specs.Asking.{one_sent}
use Rattle.request_record.specs.Record.{IsRecord}
use Rattle.upload_core.specs.declared.status.UploadStatus.TheVariants.{Failed}
use Rattle.upload_core.specs.State.{UploadState, with_record}
use Rattle.upload_core.specs.Course.{IsKept}
use Rattle.upload_core.specs.Sending.{AsksAt, IsBody, Uploading, first_to_send}
use Rattle.upload_core.proofs.Right.{failed_kept, sent_kept}
use Rattle.upload_core.proofs.Sends.{ceases_now, sends_first}
use Rattle.upload_core.proofs.upload.UploadOperation.take_outgoing.Goals as goal

pub returns-in-Ok-clause-ok : goal.returns-in-Ok-clause-ok
returns-in-Ok-clause-ok g c =
    let mid : Uploading g.row.P.Denot = record { pieces = c.self-2.inside.pieces; course = c.self-2.inside.course } in
    let old : Uploading g.row.P.Denot = c.args.self.now in
    let first : first_to_send old.course ≡ Some c.in-Some.position = subst (λ (x : Uploading g.row.P.Denot). first_to_send x.course ≡ Some c.in-Some.position) c.self.view_is (sym c.in-Some.ensures.value) in
    let asks : AsksAt old.course c.in-Some.position c.request_at-server.result.0 c.request_at-server.result.1 = subst (λ (x : Uploading g.row.P.Denot). AsksAt x.course c.in-Some.position c.request_at-server.result.0 c.request_at-server.result.1) c.self.view_is c.request_at-server.ensures.value in
    let body : IsBody g.P.Pieces.gives g.P.Pieces.fails old.course.goal.cap.storage_index old.pieces c.request_at-server.result.1 c.in_ok-body.field-0 mid.pieces = subst (λ (x : Uploading g.row.P.Denot). IsBody g.P.Pieces.gives g.P.Pieces.fails old.course.goal.cap.storage_index old.pieces c.request_at-server.result.1 c.in_ok-body.field-0 x.pieces) (sym c.self-2.view_is) c.in_ok-body.ensures.ok in
    let same : mid.course ≡ old.course = ap (λ (x : Uploading g.row.P.Denot). x.course) c.self-2.view_is ∙ c.in_ok-body.ensures.course in
    sends_first g.P.Pieces.gives g.P.Pieces.fails old mid c.in-Some.position c.request_at-server.result.0 c.request_at-server.result.1 c.in_ok-body.field-0 first asks body same c.in-Ok.body c.send.result c.send.new.self c.in-Ok.is c.send.ensures.message c.send.ensures.sent

pub returns-in-Err-clause-ok : goal.returns-in-Err-clause-ok
returns-in-Err-clause-ok g c =
    let mid : Uploading g.row.P.Denot = record { pieces = c.self-2.inside.pieces; course = c.self-2.inside.course } in
    let old : Uploading g.row.P.Denot = c.args.self.now in
    let first : first_to_send old.course ≡ Some c.in-Some.position = subst (λ (x : Uploading g.row.P.Denot). first_to_send x.course ≡ Some c.in-Some.position) c.self.view_is (sym c.in-Some.ensures.value) in
    let asks : AsksAt old.course c.in-Some.position c.request_at-server.result.0 c.request_at-server.result.1 = subst (λ (x : Uploading g.row.P.Denot). AsksAt x.course c.in-Some.position c.request_at-server.result.0 c.request_at-server.result.1) c.self.view_is c.request_at-server.ensures.value in
    let body : IsBody g.P.Pieces.gives g.P.Pieces.fails old.course.goal.cap.storage_index old.pieces c.request_at-server.result.1 c.in_ok-body.field-0 mid.pieces = subst (λ (x : Uploading g.row.P.Denot). IsBody g.P.Pieces.gives g.P.Pieces.fails old.course.goal.cap.storage_index old.pieces c.request_at-server.result.1 c.in_ok-body.field-0 x.pieces) (sym c.self-2.view_is) c.in_ok-body.ensures.ok in
    let same : mid.course ≡ old.course = ap (λ (x : Uploading g.row.P.Denot). x.course) c.self-2.view_is ∙ c.in_ok-body.ensures.course in
    let kept : IsKept old.course = subst (λ (x : Uploading g.row.P.Denot). IsKept x.course) c.self.view_is c.self.invariant.2 in
    let recorded : IsRecord old.course.requests = subst (λ (x : Uploading g.row.P.Denot). IsRecord x.course.requests) c.self.view_is c.in-Some.ensures.recorded in
    ceases_now g.P.Pieces.gives g.P.Pieces.fails old mid c.in-Some.position c.request_at-server.result.0 c.request_at-server.result.1 c.in_ok-body.field-0 first asks body same c.in-Err.fault c.fail.new.self kept recorded c.in-Err.is c.fail.ensures

pub invariant_of-self : goal.invariant_of-self
invariant_of-self g c =
    let u : UploadState = c.self-2.inside.course in
    let kept = sent_kept u c.self-2.invariant.2 in
    let sent : c.send.new.self ≡ with_record u (one_sent u.requests) = c.send.ensures.sent in (
      c.self-2.invariant.0 ∙ ap (λ (x : UploadState). x.goal.digests) (sym sent),
      c.self-2.invariant.1 ∙ ap (λ (x : UploadState). x.goal.share_length) (sym sent),
      subst IsKept (sym sent) kept,
    )

pub invariant_of-self-in-Err : goal.invariant_of-self-in-Err
invariant_of-self-in-Err g c =
    let u : UploadState = c.self-2.inside.course in
    let kept = failed_kept u c.in-Err.fault c.self-2.invariant.2.course in
    let failed : c.fail.new.self ≡ record u { status = Failed c.in-Err.fault } = c.fail.ensures in (
      c.self-2.invariant.0 ∙ ap (λ (x : UploadState). x.goal.digests) (sym failed),
      c.self-2.invariant.1 ∙ ap (λ (x : UploadState). x.goal.share_length) (sym failed),
      subst IsKept (sym failed) kept,
    )
