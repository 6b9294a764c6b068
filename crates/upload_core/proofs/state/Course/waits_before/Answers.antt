use Rattle.std.proofs.Common.{◌∙◌, List, ap}
use Rattle.request_record.specs.declared.requests.Request.{Request}
use Rattle.upload_core.specs.State.{UploadState}
use Rattle.upload_core.specs.Transfers.{waits_before}
use Rattle.upload_core.proofs.Written.{waits_kept}
use Rattle.upload_core.proofs.state.Course.waits_before.Goals as goal

pub returns : goal.returns
returns c =
    c.waits_before.ensures
    ∙ ap (λ (es : List Request). waits_before es c.args.server c.args.share c.args.end) c.kept_since.ensures
    ∙ waits_kept c.self.inside.requests.entries c.args.server c.args.share c.args.end
    ∙ ap (λ (s : UploadState). waits_before s.requests.entries c.args.server c.args.share c.args.end) c.self.view_is
