use Rattle.std.proofs.Common.{◌∙◌}
use Rattle.file_streaming.proofs.OfFiles.{kept_of_file}
use Rattle.file_streaming.proofs.prepared.Prepared.piece.Goals as goal

pub returns-clause-changed : goal.returns-clause-changed
returns-clause-changed g c = λ e file secret q is.
    c.piece.ensures.changed e file (kept_of_file c.self.inside.kept c.self.inside.cap file secret q c.self.invariant (c.self.view_is ∙ is))
