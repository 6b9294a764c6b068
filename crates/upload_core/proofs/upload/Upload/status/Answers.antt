use Rattle.std.proofs.Common.{subst}
use Rattle.upload_core.specs.Right.{IsRight}
use Rattle.upload_core.specs.Sending.{Uploading}
use Rattle.upload_core.proofs.Right.{right_of}
use Rattle.upload_core.proofs.upload.Upload.status.Goals as goal

pub returns-clause-right : goal.returns-clause-right
returns-clause-right g c =
    subst (λ (u : Uploading g.row.P.Denot). IsRight u.course) c.self.view_is (right_of c.self.inside.course c.self.invariant.2 c.status.ensures.recorded)
