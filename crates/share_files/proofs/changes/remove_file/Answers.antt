use Rattle.share_files.proofs.OneStep.{nothing_done, others_none}
use Rattle.share_files.proofs.changes.remove_file.Goals as goal

pub returns-in-Err-clause-removes : goal.returns-in-Err-clause-removes
returns-in-Err-clause-removes g c honest = nothing_done _ _ _ (others_none _)
