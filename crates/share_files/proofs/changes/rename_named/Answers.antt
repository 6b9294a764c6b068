use Rattle.share_files.proofs.OneStep.{does_after, nothing_done, others_none}
use Rattle.share_files.proofs.changes.rename_named.Goals as goal

pub returns-then-eq-clause-renames : goal.returns-then-eq-clause-renames
returns-then-eq-clause-renames g c honest = nothing_done _ _ _ (others_none _)

pub returns-in-Ok-clause-renames : goal.returns-in-Ok-clause-renames
returns-in-Ok-clause-renames g c honest =
    does_after _ _ _ c.rename.result _ (g.D.Disk.folder c.look_at.new.disk) _ (c.look_at.ensures.looks (c.rename.ensures.so_far honest)) (c.rename.ensures.gives honest)

pub returns-in-Err-clause-renames : goal.returns-in-Err-clause-renames
returns-in-Err-clause-renames g c honest = nothing_done _ _ _ (c.look_at.ensures.looks honest)
