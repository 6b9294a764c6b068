use Rattle.std.proofs.Common.{◌≡◌, ℕ, List, take, Some, sym, ap, subst, ◌∙◌}
use Rattle.std.specs.Prelude.{slice_get}
use Rattle.lemmas.proofs.Results.{on_ok}
use Rattle.request_record.specs.declared.requests.Asked.{Asked}
use Rattle.request_record.specs.declared.requests.Request.{Request}
use Rattle.request_record.specs.Record.{asked_all}
use Rattle.upload_core.specs.declared.transfers.Effect.TheVariants.{Fails}
use Rattle.upload_core.specs.State.{UploadState, with_record}
use Rattle.upload_core.specs.Transfers.{asked_after}
use Rattle.upload_core.specs.Moves.{asks_of_server}
use Rattle.upload_core.specs.Course.{IsCourse}
use Rattle.upload_core.specs.Trails.{IsLostAt, IsPassed}
use Rattle.upload_core.proofs.Asks.{loss_begins, loss_follows}
use Rattle.upload_core.proofs.Written.{lost_kept}
use Rattle.upload_core.proofs.Fields.{seen}
use Rattle.upload_core.proofs.state.Course.follow_loss.Goals as goal

pub request-request-requires : goal.request-request-requires
request-request-requires c =
    lost_kept c.self.inside.requests.entries c.args.position (subst (λ (s : UploadState). IsLostAt s.requests.entries c.args.position) (sym c.self.view_is) c.requires.lost)

pub follow-requires : goal.follow-requires
follow-requires c = λ k.
    let u : UploadState = seen c.self.inside in
    let r : Request = c.request-request.result.now in
    let there : slice_get u.requests.entries c.args.position ≡ Some r = c.request-request.ensures in
    let passed : IsPassed u.goal u.requests.entries c.args.position = subst (λ (s : UploadState). IsPassed s.goal s.requests.entries c.args.position) (sym c.self.view_is) c.requires.passed in
    subst (λ (s : UploadState). IsCourse (with_record s (asked_all (asks_of_server r.server (take k (asked_after s.goal s.requests.entries r.server r.asked Fails))) s.requests))) c.self.view_is
    (loss_begins c.args.position r u c.self.invariant there passed k)

pub returns-clause-ok : goal.returns-clause-ok
returns-clause-ok c =
    let v : UploadState = c.args.self.now in
    let r : Request = c.request-request.result.now in
    let there : slice_get v.requests.entries c.args.position ≡ Some r = ap (λ (s : UploadState). slice_get s.requests.entries c.args.position) (sym c.self.view_is) ∙ c.request-request.ensures in
    on_ok c.follow.result _ _ (λ n. n ∙ ap (λ (asks : List (ℕ × Asked)). with_record v (asked_all asks v.requests)) (loss_follows c.args.position r v.goal v.requests.entries there c.requires.lost)) c.follow.ensures.ok
