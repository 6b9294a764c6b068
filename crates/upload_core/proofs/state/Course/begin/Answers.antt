use Rattle.std.proofs.Common.{◌≡◌, ◌≤◌, ◌∙◌, ap, length, refl, subst, sym, eqb}
use Rattle.std.specs.List.{IsDistinct}
use Rattle.request_record.specs.Asking.{begun}
use Rattle.upload_core.specs.declared.status.UploadStatus.TheVariants.{Running}
use Rattle.upload_core.specs.State.{Goal, UploadState, with_record, upload_state}
use Rattle.upload_core.specs.Moves.{initial}
use Rattle.upload_core.specs.Trails.{AreFollowed}
use Rattle.request_record.specs.Record.{RequestsState}
use Rattle.upload_core.proofs.Goes.{begun_course, followed_begun, order_distinct}
use Rattle.upload_core.proofs.Stands.{begins_from}
use Rattle.upload_core.proofs.state.Course.begin.Goals as goal

pub invariant_of-course : goal.invariant_of-course
invariant_of-course c =
    let nodes = c.in_ok-servers.servers.items in
    let distinct : IsDistinct eqb nodes = order_distinct c.args.goal.cap.storage_index c.args.servers.now nodes c.in_ok-servers.ensures c.requires.distinct in
    let u : UploadState = upload_state c.args.goal c.args.happy nodes c.in_ok-requests.requests 0 Running in
    let few : length c.args.goal.digests ≤ 256 = subst (λ (g : Goal). length g.digests ≤ 256) c.goal.view_is c.goal.invariant.0 in
    let some : 1 ≤ c.args.goal.ahead = subst (λ (g : Goal). 1 ≤ g.ahead) c.goal.view_is c.goal.invariant.1 in
    let long : 1 ≤ c.args.goal.share_length = subst (λ (g : Goal). 1 ≤ g.share_length) c.goal.view_is c.goal.invariant.2 in
    begun_course u nodes c.args.session c.args.now (c.in_ok-requests.ensures ∙ ap (λ l. begun l c.args.session c.args.now) c.as_slice.ensures.value) refl few some long distinct

pub returns-clause-ok : goal.returns-clause-ok
returns-clause-ok c =
    let nodes = c.in_ok-servers.servers.items in
    let old : UploadState = upload_state c.args.goal c.args.happy nodes c.in_ok-requests.requests 0 Running in
    let asks : c.in_ok-requests.requests ≡ begun nodes c.args.session c.args.now = c.in_ok-requests.ensures ∙ ap (λ l. begun l c.args.session c.args.now) c.as_slice.ensures.value in
    let first : old ≡ initial c.args.goal c.args.happy nodes c.args.session c.args.now = ap (with_record old) asks in
    begins_from c.args.goal c.args.happy c.args.servers.now c.args.session c.args.now nodes old c.go_on.new.self first c.in_ok-servers.ensures c.in_ok-go_on.ensures.ok

pub go_on-requires : goal.go_on-requires
go_on-requires c =
    let nodes = c.in_ok-servers.servers.items in
    let asks : c.in_ok-requests.requests ≡ begun nodes c.args.session c.args.now = c.in_ok-requests.ensures ∙ ap (λ l. begun l c.args.session c.args.now) c.as_slice.ensures.value in
    subst (λ (r : RequestsState). AreFollowed c.args.goal r.entries) (sym asks) (followed_begun c.args.goal c.args.session c.args.now nodes)
