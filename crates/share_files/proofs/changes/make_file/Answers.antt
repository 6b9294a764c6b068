use Rattle.share_files.proofs.OneStep.{nothing_made}
use Rattle.share_files.proofs.changes.make_file.Goals as goal

pub returns-in_default-clause-makes : goal.returns-in_default-clause-makes
returns-in_default-clause-makes g c honest = nothing_made _
