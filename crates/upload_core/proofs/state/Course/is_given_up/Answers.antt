use Rattle.std.proofs.Common.{◌∙◌, List, ap}
use Rattle.request_record.specs.declared.requests.Request.{Request}
use Rattle.upload_core.specs.State.{UploadState}
use Rattle.upload_core.specs.Transfers.{is_given_up}
use Rattle.upload_core.proofs.Written.{given_kept}
use Rattle.upload_core.proofs.state.Course.is_given_up.Goals as goal

pub returns : goal.returns
returns c =
    c.is_given_up.ensures
    ∙ ap (λ (es : List Request). is_given_up es c.args.server c.args.asked.now) c.kept_since.ensures
    ∙ given_kept c.self.inside.requests.entries c.args.server c.args.asked.now
    ∙ ap (λ (s : UploadState). is_given_up s.requests.entries c.args.server c.args.asked.now) c.self.view_is
