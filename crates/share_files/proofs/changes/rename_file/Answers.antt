use Rattle.share_files.proofs.OneStep.{nothing_done, others_none}
use Rattle.share_files.proofs.changes.rename_file.Goals as goal

pub returns-in_default-clause-renames : goal.returns-in_default-clause-renames
returns-in_default-clause-renames g c honest = nothing_done _ _ _ (others_none _)
