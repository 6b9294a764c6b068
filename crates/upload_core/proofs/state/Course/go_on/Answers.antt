use Rattle.std.proofs.Common.{◌≡◌, ap, arith, subst, ◌∙◌}
use Rattle.request_record.specs.Record.{outstanding_count}
use Rattle.upload_core.specs.State.{UploadState}
use Rattle.upload_core.specs.Acknowledged.{acked_pairs}
use Rattle.upload_core.proofs.Written.{acked_kept}
use Rattle.upload_core.proofs.state.Course.go_on.Goals as goal

pub place_or_end-requires-clause-acked : goal.place_or_end-requires-clause-acked
place_or_end-requires-clause-acked c =
    c.deref.ensures.value ∙ c.in_ok-acked.ensures ∙ ap (acked_pairs c.self.inside.goal) c.kept_since.ensures ∙ acked_kept c.self.inside.goal c.self.inside.requests.entries ∙ ap (λ (s : UploadState). acked_pairs s.goal s.requests.entries) c.self.view_is

pub place_or_end-requires-clause-settled : goal.place_or_end-requires-clause-settled
place_or_end-requires-clause-settled c = subst (λ (s : UploadState). outstanding_count s.requests.entries ≡ 0) c.self.view_is (omega (arith, c.outstanding.ensures, c.if-outstanding-gt0.false))
