use Rattle.std.proofs.Common.{◌≡◌, ◌∙◌, true, false, Some, ap, sym}
use Rattle.std.specs.Prelude.{slice_get}
use Rattle.request_record.specs.Record.{counts_at}
use Rattle.upload_core.specs.State.{UploadState}
use Rattle.upload_core.proofs.Answering.{heard_is}
use Rattle.upload_core.proofs.state.Course.heard_at.Goals as goal

pub returns-then-is_early-clause-value : goal.returns-then-is_early-clause-value
returns-then-is_early-clause-value c =
    let v : UploadState = c.args.self.now in
    let counts : counts_at c.args.from c.args.message.now v.requests ≡ Some c.in_ok-position.position = ap (λ (s : UploadState). counts_at c.args.from c.args.message.now s.requests) (sym c.self.view_is) ∙ sym c.counts_at.ensures.value ∙ c.in_ok-position.was in
    let there : slice_get v.requests.entries c.in_ok-position.position ≡ Some c.request-request.result.now = ap (λ (s : UploadState). slice_get s.requests.entries c.in_ok-position.position) (sym c.self.view_is) ∙ c.request-request.ensures in
    sym (heard_is c.args.from c.args.message.now v.requests c.in_ok-position.position c.request-request.result.now counts there true (sym c.is_early.ensures ∙ c.if-is_early.true))

pub returns-else-is_early-clause-value : goal.returns-else-is_early-clause-value
returns-else-is_early-clause-value c =
    let v : UploadState = c.args.self.now in
    let counts : counts_at c.args.from c.args.message.now v.requests ≡ Some c.in_ok-position.position = ap (λ (s : UploadState). counts_at c.args.from c.args.message.now s.requests) (sym c.self.view_is) ∙ sym c.counts_at.ensures.value ∙ c.in_ok-position.was in
    let there : slice_get v.requests.entries c.in_ok-position.position ≡ Some c.request-request.result.now = ap (λ (s : UploadState). slice_get s.requests.entries c.in_ok-position.position) (sym c.self.view_is) ∙ c.request-request.ensures in
    sym (heard_is c.args.from c.args.message.now v.requests c.in_ok-position.position c.request-request.result.now counts there false (sym c.is_early.ensures ∙ c.if-is_early.false))
